-- How the calls that print come by these numbers: a file that isn't read, one that is, and the numbers of a search and of a run.
-- By the definitions. Assumes nothing.
use Rattle.std.specs.Prelude.{ℕ, ◌≤◌, ◌≡◌, refl, List, length, take, drop, replicate}
use Rattle.std.proofs.Math.Path.{sym, ap}
use Rattle.std.proofs.Common.{◌∙◌, arith, take_at}
use borrow.Author.Tests.{eq-eqb}
use Rattle.base.specs.declared.Length.{Length}
use Rattle.base.specs.Limits.{pool_size, stream_size}
use Rattle.table.specs.Stream.{stream_refusal}
use Rattle.table.specs.File.{stream_of, read_refusal, read_of, read_into}
use Rattle.table.specs.FileLaws.{read_most}
use Rattle.costs.specs.declared.ValueOrder.{ValueOrder}
use Rattle.search.specs.declared.Found.{Found}
use Rattle.search.specs.Search.{search_refusal, search_of, branch_and_bound_of}
use Rattle.search.specs.Laws.{search_refusal_lem, bounded_refusal}
use Rattle.runs.specs.declared.Answer.{Answer}
use Rattle.runs.specs.Settle.{settle_of}
use Rattle.slots.specs.declared.Answer.{Answer as SlotsAnswer}
use Rattle.slots.specs.Slot.{slot_pool_size}
use Rattle.slots.specs.Settle as S
use Rattle.report.specs.Report.{file_refusal, settle_refusal, slots_refusal}

-- what reading a file into a buffer of a stream's size gives: its refusal, or the stream, in front of the buffer
module _ (f out : List ℕ) (r : Length) (e : r ≡ read_of f (length out)) (room : length out ≡ stream_size) where
  pub refusal_of_lem : r.refusal ≡ read_refusal f stream_size
  unfolding read_of
  refusal_of_lem = ap (λ (x : Length). x.refusal) e ∙ rw room

module _ (f out : List ℕ) (r : Length) (e : r ≡ read_of f (length out)) (room : length out ≡ stream_size) (h : r.refusal ≡ 0) where
  read_of_lem : read_refusal f (length out) ≡ 0
  unfolding read_of
  read_of_lem = sym (ap (λ (x : Length). x.refusal) e) ∙ h

  length_of : r.length ≡ length (stream_of f)
  unfolding read_of
  length_of = ap (λ (x : Length). x.length) e ∙ rw (eq-eqb (read_refusal f (length out)) 0 read_of_lem)

  pub read_fits : r.length ≤ stream_size
  read_fits = omega (arith, length_of, read_most f (length out) read_of_lem)

  pub read_front : (left : List ℕ) → left ≡ read_into f out → take r.length left ≡ stream_of f
  unfolding read_into
  read_front left q = rw (length_of, q, eq-eqb (read_refusal f (length out)) 0 read_of_lem) (take_at (stream_of f) (drop (length (stream_of f)) out) (length (stream_of f)) refl)

-- a file that is read: what is done with its stream
pub read_report : (f : List ℕ) → read_refusal f stream_size ≡ 0 → (done : List ℕ → ℕ) (k : ℕ) (part : List ℕ) → part ≡ stream_of f → k ≡ done part → k ≡ file_refusal done f
unfolding file_refusal
read_report f z done k part p q = q ∙ rw (p, z)

-- the number of either search
pub found_refusal : (s : List ℕ) (r : Found) → r ≡ search_of s → r.refusal ≡ search_refusal s
found_refusal s r e = ap (λ (x : Found). x.refusal) e ∙ search_refusal_lem s

pub bounded_found_refusal : (s : List ℕ) (r : Found) → r ≡ branch_and_bound_of s → r.refusal ≡ stream_refusal s
bounded_found_refusal s r e = ap (λ (x : Found). x.refusal) e ∙ bounded_refusal s

-- the run's own number, over either pool
pub settled_refusal : (order : ValueOrder) (s : List ℕ) (a : Answer) → a ≡ (settle_of order s (replicate pool_size 0)).answer → a.refusal ≡ settle_refusal order s
unfolding settle_refusal
settled_refusal order s a e = ap (λ (x : Answer). x.refusal) e

pub slots_refusal_lem : (order : ValueOrder) (s : List ℕ) (a : SlotsAnswer) → a ≡ (S.settle_of order s (replicate slot_pool_size 0)).answer → a.refusal ≡ slots_refusal order s
unfolding slots_refusal
slots_refusal_lem order s a e = ap (λ (x : SlotsAnswer). x.refusal) e
