-- `pass` meets its contract: each arm is a clause of `Passed`.
-- Assumes nothing.
use mathlib.Core.Path.{refl}
use mathlib.Core.Logic.{⊎_elim}
use Rattle.network.proofs.short.pass.Goals as goal

pub returns-in-Quiet : goal.returns-in-Quiet
returns-in-Quiet c = let t = c.take_out.ensures in ⊎_elim (λ e. rw e t) (⊎_elim (λ e. rw e t) (λ e. rw e t)) c.in-Quiet.is

pub returns-in-Reply : goal.returns-in-Reply
returns-in-Reply c = let t = c.answer.ensures in ⊎_elim (λ e. rw e t) (λ e. rw e t) c.in-Reply.is

pub returns-in-Whole : goal.returns-in-Whole
returns-in-Whole c = rw c.in-Whole.is (refl, refl)
