-- A shed run to its end by a rule that names the next cell, whatever its pool: while it runs the next delivery is accepted and counted, and once it has stopped longer lists leave it where it stands,
-- so the list of as many cells as can be accepted in all does, and has come to the end. What holds after some deliveries by the rule is `After`.
-- By what a run promises: no more than so many are accepted, and so on. Assumes nothing.
use Rattle.std.specs.Prelude.{ℕ, zero, suc, ◌+◌, ◌-◌, ◌≤◌, ◌≡◌, refl, ◌⊎◌, Bool, true, false, List}
use Rattle.std.proofs.Common.{sym, ap, ◌∙◌, subst, inl, inr, ⊎_elim, arith, add-zero, add-suc}
use Rattle.std.proofs.lemmas.Bool.{false≢true}
use Rattle.runs.specs.Deliveries.{Delivery, deliver_all}

-- what a run promises of its shed, which `first` is as making left it
pub record Promise {S : Type 0} (D : Delivery S) (first : S) (over : S → Bool) (count : S → ℕ) (most : ℕ) : Type 0 where
  pub bounded : (cs : List ℕ) → count (deliver_all D first cs) ≤ most
  pub counted : (cs : List ℕ) (c : ℕ) → D.refusal (deliver_all D first cs) c ≡ 0 → count (D.after (deliver_all D first cs) c) ≡ suc (count (deliver_all D first cs))
  pub stays : (cs : List ℕ) (c : ℕ) → over (deliver_all D first cs) ≡ true → D.after (deliver_all D first cs) c ≡ deliver_all D first cs

-- `choose` is the rule, and `cells k` are the first k that it names
module _ {S : Type 0} (D : Delivery S) (first : S) (over : S → Bool) (count : S → ℕ) (choose : S → ℕ) (most : ℕ) (p : Promise D first over count most) (cells : ℕ → List ℕ)
    (more : (k : ℕ) → deliver_all D first (cells (suc k)) ≡ D.after (deliver_all D first (cells k)) (choose (deliver_all D first (cells k))))
    (accepts : (k : ℕ) → over (deliver_all D first (cells k)) ≡ false → D.refusal (deliver_all D first (cells k)) (choose (deliver_all D first (cells k))) ≡ 0) where
  -- after as many deliveries by the rule as were counted
  module _ (s : S) (a : s ≡ deliver_all D first (cells (count s))) where
    pub after_bounded : count s ≤ most
    after_bounded = subst (λ t. count t ≤ most) (sym a) (p.bounded (cells (count s)))

    pub after_accepted : over s ≡ false → D.refusal s (choose s) ≡ 0
    after_accepted st = subst (λ t. over t ≡ false → D.refusal t (choose t) ≡ 0) (sym a) (accepts (count s)) st

    pub after_counted : over s ≡ false → count (D.after s (choose s)) ≡ suc (count s)
    after_counted st = subst (λ t. D.refusal t (choose t) ≡ 0 → count (D.after t (choose t)) ≡ suc (count t)) (sym a) (λ e. p.counted (cells (count s)) _ e) (after_accepted st)

    pub after_next : over s ≡ false → D.after s (choose s) ≡ deliver_all D first (cells (count (D.after s (choose s))))
    after_next st = ap (λ t. D.after t (choose t)) a ∙ sym (more (count s)) ∙ ap (λ k. deliver_all D first (cells k)) (sym (after_counted st))

    after_stopped : over s ≡ true → (j : ℕ) → deliver_all D first (cells (count s + j)) ≡ s
    after_stopped st zero = ap (λ k. deliver_all D first (cells k)) (add-zero (count s)) ∙ sym a
    after_stopped st (suc j) =
        ap (λ k. deliver_all D first (cells k)) (add-suc (count s) j) ∙ more (count s + j) ∙ ap (λ t. D.after t (choose t)) (after_stopped st j)
        ∙ subst (λ t. over t ≡ true → D.after t (choose t) ≡ t) (sym a) (p.stays (cells (count s)) _) st

    -- all that can be accepted leave it there
    pub after_all : over s ≡ true → deliver_all D first (cells most) ≡ s
    after_all st = let e : most ≡ count s + (most - count s) = omega (arith, after_bounded) in ap (λ k. deliver_all D first (cells k)) e ∙ after_stopped st (most - count s)

  -- k cells that the rule names stop it, or all of them are accepted
  stopped_or_counted : (k : ℕ) → (over (deliver_all D first (cells k)) ≡ true) ⊎ (k ≤ count (deliver_all D first (cells k)))
  stopped_or_counted zero = inr (omega arith)
  stopped_or_counted (suc k) = go (over (deliver_all D first (cells k))) refl (stopped_or_counted k)
    where
      go : (t : Bool) → over (deliver_all D first (cells k)) ≡ t → (over (deliver_all D first (cells k)) ≡ true) ⊎ (k ≤ count (deliver_all D first (cells k)))
          → (over (deliver_all D first (cells (suc k))) ≡ true) ⊎ (suc k ≤ count (deliver_all D first (cells (suc k))))
      go true st before = inl (ap over (more k ∙ p.stays (cells k) _ st) ∙ st)
      go false st (inl stopped) = absurd (false≢true (sym st ∙ stopped))
      go false st (inr h) = inr (rw (more k, p.counted (cells k) _ (accepts k st)) (omega arith))

  -- where it has stopped once as many were accepted as can be, the rule brings it to its end
  pub rule_ends : ((cs : List ℕ) → count (deliver_all D first cs) ≡ most → over (deliver_all D first cs) ≡ true) → over (deliver_all D first (cells most)) ≡ true
  rule_ends ends = ⊎_elim (λ st. st) (λ h. ends (cells most) (omega (arith, p.bounded (cells most)))) (stopped_or_counted most)
