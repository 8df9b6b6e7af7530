-- The answers of `readings_refusal`, in their order. Each by its tests. Assumes nothing.
use Rattle.std.specs.Prelude.{ℕ, ◌*◌, ◌≤◌, ◌<◌, ◌≡◌, Bool, true, false, List, length}
use borrow.Author.Tests.{eq-eqb, ne_eqb, lt-ltb, le-ltb}
use Rattle.base.specs.Every.{every}
use Rattle.base.specs.Limits.{stream_size}
use Rattle.base.specs.Shape.{shape_good}
use Rattle.readings.specs.Readings.{reading_good, reading_at, readings_refusal}

-- the first n readings are in range
abbrev pub all_good : ℕ → List ℕ → Bool
all_good n readings = every (λ k. reading_good (reading_at readings k)) n

module _ (n : ℕ) (sizes readings : List ℕ) (room : ℕ) where
  pub refused_5 : shape_good n sizes ≡ false → 5 ≡ readings_refusal n sizes readings room
  unfolding readings_refusal
  refused_5 a = simp a

  module _ (a : shape_good n sizes ≡ true) where
    pub refused_6 : (length readings ≡ 2 * n → ⊥) → 6 ≡ readings_refusal n sizes readings room
    unfolding readings_refusal
    refused_6 b = simp (a, ne_eqb (length readings) (2 * n) b)

    module _ (b : length readings ≡ 2 * n) where
      pub refused_17 : all_good n readings ≡ false → 17 ≡ readings_refusal n sizes readings room
      unfolding readings_refusal
      refused_17 d = simp (a, eq-eqb (length readings) (2 * n) b, d)

      module _ (d : all_good n readings ≡ true) where
        pub refused_13 : room < stream_size → 13 ≡ readings_refusal n sizes readings room
        unfolding readings_refusal
        refused_13 e = simp (a, eq-eqb (length readings) (2 * n) b, d, lt-ltb room stream_size e)

        pub refused_none : stream_size ≤ room → 0 ≡ readings_refusal n sizes readings room
        unfolding readings_refusal
        refused_none e = simp (a, eq-eqb (length readings) (2 * n) b, d, le-ltb room stream_size e)
