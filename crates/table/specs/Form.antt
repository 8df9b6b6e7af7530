-- The two forms of a stored table, and converting one into the other. 02, job 7: "A mover turns form one into form two and back". That a table
-- converted there and back is the first file again is in Form/Laws. Assumes nothing.
use Rattle.std.specs.Prelude.{ℕ, ◌+◌, ◌*◌, Bool, true, cond, List, ◌∷◌, ◌++◌, ltb, length, take, drop, replicate}
use Rattle.base.specs.{declared.Length.Length, Limits.form_two, Limits.block_size, Limits.stream_size, Refusal.or_else}
use Rattle.table.specs.declared.Form.{Form}
use Rattle.table.specs.declared.Form.TheVariants.{One, Two}
use Rattle.table.specs.Stream.{in_form_two, units_of, sizes_of, sum_list, unaries_in, unaries_at, pairs_at}
use Rattle.table.specs.Block.{all_zero, blocks_for}
use Rattle.table.specs.{Written.file_of, File.answer, File.leaves, File.stream_of, File.read_refusal}
pub mod Laws
pub mod Made
pub mod Parts
pub mod Pieces

-- which of the two a stream is in
abbrev pub form_of : List ℕ → Form
form_of s = cond (in_form_two s) Two One

-- form two of a stream of form one, 02: "the stream opens with byte 200, then n, sizes, own costs unit by unit, pair costs", the own costs zero
unfoldable pub to_two : List ℕ → List ℕ
to_two s = form_two ∷ (take (1 + units_of s) s ++ replicate (2 * sum_list (sizes_of s)) 0 ++ drop (1 + units_of s) s)

-- form one of a stream of form two: n, sizes, pair costs
unfoldable pub to_one : List ℕ → List ℕ
to_one s = take (1 + units_of s) (drop 1 s) ++ drop (pairs_at s) s

-- 02: "A file already in the form wanted comes out as it went in."
abbrev pub in_form : Form → List ℕ → List ℕ
in_form One s = cond (in_form_two s) (to_one s) s
in_form Two s = cond (in_form_two s) s (to_two s)

-- no unary cost is above zero
abbrev pub no_unary : List ℕ → Bool
no_unary s = all_zero (take (2 * unaries_in s) (drop (unaries_at s) s))

-- 02: "Going back with an own cost above zero is 18"
abbrev pub lossless : Form → List ℕ → Bool
lossless One s = no_unary s
lossless Two s = true

-- 02: "The mover's checks are a reading's, then 13 for the blocks needed", and 18 "after all other checks". It has no stream buffer that could be
-- too small.
unfoldable pub convert_refusal : Form → List ℕ → ℕ → ℕ
convert_refusal form f room =
    or_else (read_refusal f stream_size)
    (or_else (cond (ltb room (block_size * blocks_for (length (in_form form (stream_of f))))) 13 0) (cond (lossless form (stream_of f)) 0 18))

-- the file in that form
abbrev pub converted : Form → List ℕ → List ℕ
converted form f = file_of (in_form form (stream_of f))

unfoldable pub convert_of : Form → List ℕ → ℕ → Length
convert_of form f room = answer (convert_refusal form f room) (length (converted form f))

unfoldable pub convert_into : Form → List ℕ → List ℕ → List ℕ
convert_into form f out = leaves (convert_refusal form f (length out)) (converted form f) out
