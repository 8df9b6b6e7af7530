-- The stream that pieces of an accepted file's stream make. Assumes nothing.
use Rattle.std.specs.Prelude.{ℕ, List}
use Rattle.table.specs.declared.converter.Pieced.{Pieced}
use Rattle.table.specs.File.{stream_of}
use Rattle.table.specs.Form.Pieces.{pieced}

abbrev pub made : Pieced → List ℕ
made p = pieced p.pieces (stream_of p.table.bytes.now)
