-- Boxes on the air: the record `OnAir` of Run.antt holds after every list of positions. A run keeps safety, the live chain, the pairs of bound and best,
-- the stops and the balance; each field of the record is read off these.
--
-- In order: what a run keeps, by a message that is accepted; the record; `on_air`, for every list of positions; the most deliveries there can be.
-- Assumes nothing.
use Rattle.std.specs.Prelude.{ℕ, zero, suc, ◌+◌, ◌*◌, ◌-◌, ◌≤◌, ◌<◌, ◌≡◌, refl, ◌⊎◌, Bool, true, false, cond, List, [], ◌∷◌, ◌++◌}
use Rattle.std.proofs.Common.{sym, subst, inl, inr, arith, mul-le-mul_right}
use Rattle.base.specs.Members.{In}
use Rattle.base.specs.Sums.Laws.{sum_to_scaled}
use Rattle.protocol.specs.Problem.{Problem, Closed, Laws, prefix_count}
use Rattle.protocol.specs.Machine.{Msg, stop, to, Agent, done, is_last, step, Network, put, make}
use Rattle.protocol.specs.Demand3.{most_each, most}
use Rattle.protocol.specs.Tests.{true_not_false}
use Rattle.protocol.specs.Totals.{total, total_in, sum_le}
use Rattle.protocol.proofs.Safety.Network.{make_safe}
use Rattle.protocol.proofs.Safety.Run.{in_pool, taken, never_refused, accept_safe}
use Rattle.protocol.proofs.Liveness.Chain.{live_waits}
use Rattle.protocol.specs.Liveness.Run.{Chain}
use Rattle.protocol.proofs.Liveness.Run.{list_delivered, accept_chain, make_chain}
use Rattle.protocol.specs.Count.Weights.{weight}
use Rattle.protocol.proofs.Best.Pairs.{accept_pairs, make-pairs}
use Rattle.protocol.proofs.Best.First.{accept_first, make-first}
use Rattle.protocol.proofs.Theorem.{live_weighs}
use Rattle.protocol.specs.Air.Run.{arrive, air, most_of, most_on_air, Acceptable, OnAir, arrive_cases, air_keeps}
use Rattle.protocol.specs.Air.Stops.{Stopping, Ends}
use Rattle.protocol.proofs.Air.Stops.{accept_ends, make_ends}
use Rattle.protocol.specs.Air.Tally.{is_stop}
use Rattle.protocol.proofs.Air.Tally.{stop_pays_le, accept_balance, make_balance, fees_on_air}
use Rattle.protocol.specs.Air.Theorem.{KeptOnAir}

module _ (P : Problem) (laws : Laws P) (n1 : 0 < P.n) where
  pub make_on_air : KeptOnAir P (make P)
  make_on_air =
      record {
        network = make_safe P laws n1;
        chain = make_chain P laws n1;
        pairs = make-pairs P laws n1;
        first = make-first P laws n1;
        ends = make_ends P laws;
        balance = make_balance P laws n1;
      }

  -- a message taken out of the air, its receiver, which has not stopped, stepped, and what is sent in the air
  pub accept_kept : (S : Network) → KeptOnAir P S → (b a : List Msg) (m : Msg) (u : Agent) (ms : List Msg) → S.pool ≡ b ++ (m ∷ a) → (S.units (to m)).stopped ≡ false
      → step P (S.units (to m)) m ≡ done u ms → KeptOnAir P (record { units = put S.units (to m) u; pool = (b ++ a) ++ ms; accepted = suc S.accepted })
  accept_kept S k b a m u ms e st d =
      record {
        network = accept_safe P laws S k.network m (b ++ a) (taken b a m e) u ms d;
        chain =
            accept_chain P laws n1 S k.network k.chain m (in_pool b a m e) u ms ((b ++ a) ++ ms) (list_delivered S.units b a m ms S.pool e)
            (λ q. subst (λ i. (S.units i).stopped ≡ false) (sym q) st) d;
        pairs = accept_pairs P laws S k.network k.pairs m (b ++ a) (taken b a m e) u ms d;
        first = accept_first P laws S k.network k.pairs k.first m (b ++ a) (taken b a m e) u ms d;
        ends = accept_ends P laws n1 S k.network k.pairs b a m u ms e st d k.ends;
        balance = accept_balance P laws S k.network b a m u ms e st d k.balance;
      }

  pub arrive-kept : (S : Network) (c : ℕ) → KeptOnAir P S → KeptOnAir P (arrive P S c)
  arrive-kept S c k = arrive_cases P S (KeptOnAir P) c k (accept_kept S k)

  -- ---- the record

  module _ (S : Network) (k : KeptOnAir P S) where
    -- a unit has not stopped: a message that its receiver accepts is in the air, and what is there weighs
    waiting : (i : ℕ) → i < P.n → (S.units i).stopped ≡ false → ((m : Msg) × Acceptable P S m) × (1 ≤ total (weight P) S.pool + total is_stop S.pool)
    waiting i lt st = go k.ends k.chain
      where
        after : ((S.units i).stopped ≡ true) ⊎ In (stop i (S.units 0).bound (S.units 0).best) S.pool
            → ((m : Msg) × Acceptable P S m) × (1 ≤ total (weight P) S.pool + total is_stop S.pool)
        after (inl q) = absurd (true_not_false q st)
        after (inr j) = ((_, (j, st, never_refused P laws S k.network _ j)), omega (arith, total_in is_stop j))

        later : Stopping P S → (j : ℕ) → i ≡ j → 1 ≤ i
        later h zero e = absurd (true_not_false h.first (subst (λ x. (S.units x).stopped ≡ false) e st))
        later h (suc j) e = omega (arith, e)

        go : Ends P S → Chain P S → ((m : Msg) × Acceptable P S m) × (1 ≤ total (weight P) S.pool + total is_stop S.pool)
        go (inl h) (inl q) = absurd (true_not_false q (h.1 0))
        go (inl h) (inr l) = let w = live_waits l in ((w.0, (w.1, h.1 (to w.0), never_refused P laws S k.network w.0 w.1)), omega (arith, live_weighs P laws n1 l))
        go (inr h) c = after (h.due i (later h i refl) lt)

    paid : S.accepted + total (weight P) S.pool + total is_stop S.pool ≤ most_on_air P
    paid = omega (arith, k.balance, fees_on_air P S.units k.network.safe n1, stop_pays_le P (S.units 0).stopped)

    -- its bound is unit 1's
    least : (i : ℕ) → i < P.n → (S.units i).stopped ≡ true → Closed P [] (S.units i).bound
    least i lt st = go k.ends
      where
        go : Ends P S → Closed P [] (S.units i).bound
        go (inl h) = absurd (true_not_false st (h.1 i))
        go (inr h) = subst (Closed P []) (sym (h.same i lt st).0) ((k.network.safe 0 n1).stop refl h.first)

    pub kept_on_air : OnAir P S
    kept_on_air =
        record {
          bounded = omega (arith, paid);
          ends = λ e i lt. stopped e i lt (S.units i).stopped refl;
          waits = λ i lt st. (waiting i lt st).0;
          report = λ i lt st. (k.network.safe i lt).valid;
          least = least;
          first = λ i lt st. k.first.pairs _ _ (inl (i, lt, (refl, refl)));
          honest = never_refused P laws S k.network;
        }
      where
        stopped : S.accepted ≡ most_on_air P → (i : ℕ) → i < P.n → (t : Bool) → (S.units i).stopped ≡ t → (S.units i).stopped ≡ true
        stopped e i lt true q = q
        stopped e i lt false q = absurd (omega (arith, e, paid, (waiting i lt q).1))

  -- ---- for every list of positions

  pub on_air : (cs : List ℕ) → OnAir P (air P (make P) cs)
  on_air cs = kept_on_air (air P (make P) cs) (air_keeps P (KeptOnAir P) arrive-kept (make P) cs make_on_air)

-- ---- the most deliveries there can be, as Demand3 counts them: (3n - 1) × N, and n - 1 stops
pub most_on_air_le : (P : Problem) → most_on_air P ≤ most P + (P.n - 1)
most_on_air_le P =
    omega (arith, sum_le _ _ (P.n - 1) (λ i lt. mul-le-mul_right (prefix_count P.size (suc i)) (each i (omega (arith, lt)))), sum_to_scaled (most_each P) (λ k. prefix_count P.size (suc k)) (P.n - 1))
  where
    each : (k : ℕ) → suc k < P.n → most_of P k ≤ most_each P
    each k lt = go (is_last P (suc k))
      where
        go : (t : Bool) → cond t (P.n + 3) (2 * (P.n - k)) ≤ most_each P
        go true = omega (arith, lt)
        go false = omega (arith, lt)
