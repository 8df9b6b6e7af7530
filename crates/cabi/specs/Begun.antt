-- How far a box is with the blocks of its table, as C lends it: the stage is a number there, and any number stands for one. `again` shows that a
-- state that was handed back is read as it was. Assumes nothing.
use Rattle.std.proofs.Math.Path.{refl}
use Rattle.std.proofs.Common.{◌∙◌, arith}
use borrow.Author.Tests.{ne_eqb}
use Rattle.std.specs.Prelude.{ℕ, zero, suc, Bool, false, cond, List, ◌≡◌, eqb, Result, Ok, Err}
use Rattle.start.specs.{declared.Stage.Stage, declared.Start.Start}
use Rattle.start.specs.declared.Stage.TheVariants.{Opening, Units, Sizes, Low, High, Whole, Long, Misshapen}
use Rattle.start.specs.Block.{Started, answer_of, accepted_as, refused_by, start_refusal, start_after, start_of, start_into}
use Rattle.cabi.specs.{declared.LentStart.LentStart, declared.LentStarted.LentStarted}

-- the stage of a number; any other stands for the last
abbrev pub stage_of : ℕ → Stage
stage_of k =
    cond (eqb k 0) Opening (cond (eqb k 1) Units (cond (eqb k 2) Sizes (cond (eqb k 3) Low (cond (eqb k 4) High (cond (eqb k 5) Whole (cond (eqb k 6) Long Misshapen))))))

abbrev pub stage_number : Stage → ℕ
stage_number Opening = 0
stage_number Units = 1
stage_number Sizes = 2
stage_number Low = 3
stage_number High = 4
stage_number Whole = 5
stage_number Long = 6
stage_number Misshapen = 7

-- the state that is lent
abbrev pub start_from : LentStart → Start
start_from s = record {
  own = s.own;
  blocks = s.blocks;
  count = s.count;
  reader = record { stage = stage_of s.stage; n = s.n; sizes = s.sizes.places; row = s.row; unit = s.unit; left = s.left; low = s.low; refusal = s.refusal };
}

-- a state with its stage as a number
abbrev pub lent_start : Start → LentStart
lent_start t = record {
  own = t.own;
  stage = stage_number t.reader.stage;
  blocks = t.blocks;
  count = t.count;
  n = t.reader.n;
  sizes = record { places = t.reader.sizes };
  row = t.reader.row;
  unit = t.reader.unit;
  low = t.reader.low;
  left = t.reader.left;
  refusal = t.reader.refusal;
}

-- what a block gives: refused, the state as it was lent
abbrev pub started_back : LentStart → Started → LentStarted
started_back s r = record { refusal = r.refusal; length = r.length; start = cond (eqb r.refusal 0) (lent_start r.start) s }

-- the same from what the code answers, and the state then
abbrev pub started_by : LentStart → Result ℕ ℕ → Start → LentStarted
started_by s (Ok count) t = record { refusal = 0; length = count; start = lent_start t }
started_by s (Err x) t = record { refusal = x; length = 0; start = s }

-- a block on what C lends
unfoldable pub start_block : LentStart → List ℕ → Bool → ℕ → LentStarted
start_block s block last room = started_back s (start_of (start_from s) block last room)

unfoldable pub started_costs : LentStart → List ℕ → Bool → List ℕ → List ℕ
started_costs s block last costs = start_into (start_from s) block last costs

-- a refused block tells no length
answered_back : (s : LentStart) (read : Start) (block : List ℕ) (last : Bool) (room : ℕ)
    → started_by s (answer_of (start_of read block last room)) (start_of read block last room).start ≡ started_back s (start_of read block last room)
unfolding start_of
answered_back s read block last room = go (start_refusal read block last room)
  where
    gives : ℕ → Started
    gives x = cond (eqb x 0) (accepted_as last (start_after read block)) (refused_by x read)

    go : (x : ℕ) → started_by s (answer_of (gives x)) (gives x).start ≡ started_back s (gives x)
    go zero = refl
    go (suc x) =
        let e : eqb (suc x) 0 ≡ false = ne_eqb (suc x) 0 (λ z. omega arith) in
        simp e

module _ (s : LentStart) (block : List ℕ) (last : Bool) {read : Start} (is : read ≡ start_from s) where
  pub block_is : (room : ℕ) {r : Result ℕ ℕ} {t : Start} {x : LentStarted} → r ≡ answer_of (start_of read block last room) → t ≡ (start_of read block last room).start → x ≡ started_by s r t
      → x ≡ start_block s block last room
  unfolding start_block
  block_is room e q f = f ∙ rw (e, q, is) (answered_back s (start_from s) block last room)

  pub costs_are : (out : List ℕ) {left : List ℕ} → left ≡ start_into read block last out → left ≡ started_costs s block last out
  unfolding started_costs
  costs_are out e = e ∙ rw is refl

-- ---- handed on from block to block

same_stage : (g : Stage) → stage_of (stage_number g) ≡ g
same_stage Opening = refl
same_stage Units = refl
same_stage Sizes = refl
same_stage Low = refl
same_stage High = refl
same_stage Whole = refl
same_stage Long = refl
same_stage Misshapen = refl

pub again : (t : Start) → start_from (lent_start t) ≡ t
again t = rw (same_stage t.reader.stage)
