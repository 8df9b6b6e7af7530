-- Lists that agree have one total. Assumes nothing.
use Rattle.std.specs.Prelude.{◌≡◌, ℕ, List}
use Rattle.costs.specs.Instance.{Instance}
use Rattle.costs.specs.Bounds.{total}
use Rattle.costs.specs.Laws.Prefix.{pre_cong, total_prefix}
use Rattle.costs.specs.Least.Laws.{Agree}

pub alike_total : (I : Instance) (l m : List ℕ) → Agree I.n l m → total I l ≡ total I m
alike_total I l m a = rw (total_prefix I l, total_prefix I m, pre_cong I.n l m a)
