-- The order in which a unit tries its values. 02, job 9: "a box tries values by rising h, the lower number first on a tie, values without an h last.
-- "After the current one" means in that order"; 01's "plain ascending order" is the other one.
--     default_order        the order of whoever names none
--     cheaper, earlier    by rising h, a value is tried before another
--     place_tried          a value's place in the order, from 1; no value, 0, has place 0
--     value_at             the value at a place; 0 where there is none
--     next, left          the value after one, 0 where there is none; how many values come after it
-- A value's place is one more than the number of values before it, so nothing is sorted. That each order is a permutation of 1 to d is in Order/Laws.
-- Assumes nothing.
use Rattle.std.specs.Prelude.{ℕ, zero, suc, ◌+◌, ◌-◌, Bool, true, false, cond, ltb, eqb, Some, None}
use Rattle.costs.specs.{Cost.Cost, Instance.View, Bounds.h}
use Rattle.costs.specs.{declared.ValueOrder.ValueOrder, declared.ValueOrder.TheVariants.Ascending, declared.ValueOrder.TheVariants.CheapestFirst}
pub mod Counted
pub mod Laws

-- 02: "Whoever names nothing gets the new one."
abbrev pub default_order : ValueOrder
default_order = CheapestFirst

-- ---- which of two values comes first, by rising h

-- value u with h c before value v with h d: the lower h, "the lower number first on a tie, values without an h last"
abbrev pub cheaper : Cost → ℕ → Cost → ℕ → Bool
cheaper (Some c) u (Some d) v = cond (eqb c d) (ltb u v) (ltb c d)
cheaper (Some c) u None v = true
cheaper None u (Some d) v = false
cheaper None u None v = ltb u v

unfoldable pub earlier : View → ℕ → ℕ → Bool
earlier w u v = cheaper (h w u) u (h w v) v

-- ---- places

-- how many of 1, .., d pass a test
abbrev pub how_many : (ℕ → Bool) → ℕ → ℕ
how_many f zero = 0
how_many f (suc d) = how_many f d + cond (f (suc d)) 1 0

-- the last of 1, .., d that passes it; 0 where none does
abbrev pub last_of : (ℕ → Bool) → ℕ → ℕ
last_of f zero = 0
last_of f (suc d) = cond (f (suc d)) (suc d) (last_of f d)

-- ascending, a value is its own place
abbrev pub place_by : ValueOrder → View → ℕ → ℕ
place_by Ascending w v = v
place_by CheapestFirst w zero = 0
place_by CheapestFirst w (suc v) = suc (how_many (λ u. earlier w u (suc v)) (w.dom w.place))

-- 01: "the own value's place in the order tried"
unfoldable pub place_tried : View → ℕ → ℕ
place_tried w v = place_by w.order w v

-- the value whose place is p
unfoldable pub value_at : View → ℕ → ℕ
value_at w p = last_of (λ v. eqb (place_tried w v) p) (w.dom w.place)

-- ---- 01: "the values after the current one"

-- the first of them
unfoldable pub next : View → ℕ → ℕ
next w v = value_at w (suc (place_tried w v))

-- how many there are
abbrev pub left : View → ℕ → ℕ
left w v = w.dom w.place - place_tried w v
