-- The stream that a view is of. Assumes nothing.
use Rattle.std.specs.Prelude.{ℕ, List}
use Rattle.table.specs.declared.view.View.{View}
use Rattle.table.specs.View.{stream_in}

abbrev pub seen : View → List ℕ
seen v = stream_in v.blocked v.bytes.now
