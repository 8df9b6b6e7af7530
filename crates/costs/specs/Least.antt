-- Which assignment is meant where several have the least total: the first of them in the order in which the units try their values, unit 1's value
-- first. 01, of the bench: "the least total with its first lotting in ascending order"; a box's lotting is the same, in the order that it is told.
-- Least/Laws says that there is only one. Assumes nothing.
use Rattle.std.specs.Prelude.{ℕ, ◌≤◌, ◌<◌, ◌≡◌, List, length, get_or}
use Rattle.costs.specs.{declared.ValueOrder.ValueOrder, Instance.Instance, Instance.view_by, Cost.as_number, Bounds.Assignment, Bounds.total, Bounds.Reported, Order.place_tried}
pub mod Laws

-- l comes before m: the first unit at which they differ tries its value in l before its value in m
pub record Before (order : ValueOrder) (I : Instance) (l m : List ℕ) : Type 0 where
  pub place : ℕ
  pub inside : place < I.n
  pub same : (i : ℕ) → i < place → get_or l i 0 ≡ get_or m i 0
  pub sooner : place_tried (view_by order I place) (get_or l place 0) < place_tried (view_by order I place) (get_or m place 0)

-- 01: "the least total with its first lotting"; 02: "The report is the least over permitted lottings, or *none* if there isn't one"
pub record LeastFirst (order : ValueOrder) (I : Instance) (t : ℕ) (l : List ℕ) : Type 0 where
  pub reported : Reported I t l
  pub first : (m : List ℕ) → Assignment I m → Before order I m l → t < as_number (total I m)

-- an array of 16 places, those past n zero
pub record Padded (n : ℕ) (l : List ℕ) : Type 0 where
  pub places : length l ≡ 16
  pub zeros : (i : ℕ) → n ≤ i → get_or l i 0 ≡ 0
