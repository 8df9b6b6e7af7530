-- Demand 3 (the record of Demand3.antt) holds after every list of cells, any two runs that have stopped agree, and until it stops a run can go on.
-- A run keeps safety, the live chain, the tally and the pairs of bound and best; each field of the record is read off these, and that it can go on off
-- what Progress keeps.
-- Assumes nothing.
use Rattle.std.specs.Prelude.{ℕ, suc, ◌^◌, ◌≤◌, ◌<◌, ◌≡◌, refl, true, false, List, ◌++◌, length}
use Rattle.std.proofs.Common.{suc-le-suc, sym, subst, inl, inr, arith, le_antisymm, le_trans, mul-le-mul}
use Rattle.base.specs.Limits.{pool_cells}
use Rattle.base.specs.Members.{In, Every}
use Rattle.base.specs.Members.Laws.{in_left, in_right, every_append}
use Rattle.protocol.specs.Problem.{Problem, Laws, closed-least, least_le}
use Rattle.protocol.specs.Machine.{Msg, to, Agent, done, step, Network, put, make, deliver, run}
use Rattle.protocol.specs.Demand3.{written, most, room_needed, Demand3}
use Rattle.protocol.specs.Tests.{true_not_false}
use Rattle.protocol.specs.Walk.{deliver_cases, run_keeps}
use Rattle.protocol.proofs.Safety.Network.{safe_fewer, make_safe}
use Rattle.protocol.proofs.Safety.Run.{in_pool, taken, heard, never_refused, accept_safe}
use Rattle.protocol.specs.Liveness.Chain.{Live, is_down, is_back, deeper, Delivered}
use Rattle.protocol.proofs.Liveness.Chain.{live_waits}
use Rattle.protocol.specs.Liveness.Run.{Chain}
use Rattle.protocol.proofs.Liveness.Run.{list_delivered, accept_chain, make_chain}
use Rattle.protocol.specs.Count.Weights.{weight}
use Rattle.protocol.specs.Totals.{total, total_in, total-taken}
use Rattle.protocol.specs.Count.Tally.{fees, Weighs}
use Rattle.protocol.proofs.Count.Tally.{accept_tally, make_tally}
use Rattle.protocol.proofs.Count.Prefixes.{fees_le}
use Rattle.protocol.proofs.Count.Width.{most-fits, records_fit, length_written}
use Rattle.protocol.proofs.Progress.Run.{run_moving, moving_accepts}
use Rattle.protocol.proofs.Best.Pairs.{pairs_fewer, accept_pairs, make-pairs}
use Rattle.protocol.proofs.Best.First.{first_fewer, accept_first, make-first}
use Rattle.protocol.specs.Theorem.{Kept}

module _ (P : Problem) (laws : Laws P) (n1 : 0 < P.n) where
  pub make-kept : Kept P (make P)
  make-kept =
      record {
        network = make_safe P laws n1;
        chain = make_chain P laws n1;
        tally = make_tally P laws n1;
        pairs = make-pairs P laws n1;
        first = make-first P laws n1;
      }

  -- A message that waits is accepted, and `new` waits then: nothing but what waited or was sent, no heavier than these without m, and CPAs wait on.
  pub accept_kept : (S : Network) → Kept P S → (m : Msg) → In m S.pool → (u : Agent) (ms new : List Msg) → (S.units 0).stopped ≡ false → step P (S.units (to m)) m ≡ done u ms
      → Every (λ x. In x (S.pool ++ ms)) new → Weighs P S.pool m ms new → Delivered S.units m ms (λ x. In x S.pool) (λ x. In x new)
      → Kept P (record { units = put S.units (to m) u; pool = new; accepted = suc S.accepted })
  accept_kept S k m i u ms new st d only weighs delivered =
      record {
        network = safe_fewer P all new only (accept_safe P laws S k.network m S.pool (heard m i) u ms d);
        chain = accept_chain P laws n1 S k.network k.chain m i u ms new delivered (λ q. st) d;
        tally = accept_tally P laws n1 S k.network k.tally m i u ms new only weighs st d;
        pairs = pairs_fewer P all new only (accept_pairs P laws S k.network k.pairs m S.pool (heard m i) u ms d);
        first = first_fewer P all new only (accept_first P laws S k.network k.pairs k.first m S.pool (heard m i) u ms d);
      }
    where
      -- all that waited or was sent
      all : Network
      all = record { units = put S.units (to m) u; pool = S.pool ++ ms; accepted = suc S.accepted }

  pub deliver-kept : (room : ℕ) (S : Network) (c : ℕ) → Kept P S → Kept P (deliver P room S c)
  deliver-kept room S c k =
      deliver_cases P room S (Kept P) c k
      (λ b a m u ms e st d le.
      accept_kept S k m (in_pool b a m e) u ms ((b ++ a) ++ ms) st d
      (every_append _ (b ++ a) ms (λ x i. in_left ms ((taken b a m e).still x i)) (λ x i. in_right S.pool i))
      (omega (arith, total-taken (weight P) b a m ms e)) (list_delivered S.units b a m ms S.pool e))

  pub run-kept : (room : ℕ) (cs : List ℕ) → Kept P (run P room (make P) cs)
  run-kept room cs = run_keeps P room (Kept P) (deliver-kept room) (make P) cs make-kept

  -- a live chain has weight
  pub live_weighs : {us : ℕ → Agent} {pool : List Msg} {k : ℕ} → Live P.n us (λ x. In x pool) k → 1 ≤ total (weight P) pool
  live_weighs (is_down o B l i h) = omega (arith, total_in (weight P) i)
  live_weighs (is_back o B l i h) = omega (arith, total_in (weight P) i)
  live_weighs (deeper o p v lt c) = live_weighs c

  pub kept_demand3 : (S : Network) → Kept P S → Demand3 P S
  kept_demand3 S k =
      record {
        bounded = omega (arith, k.tally.balance, le);
        ends = λ e. stopped e k.chain;
        waits = λ e. waiting e k.chain;
        report = λ e. (k.network.safe 0 n1).valid;
        least = λ e l f. closed-least P (S.units 0).bound ((k.network.safe 0 n1).stop refl e) l f;
        first = λ e. k.first.pairs _ _ (inl (0, n1, (refl, refl)));
        honest = never_refused P laws S k.network;
      }
    where
      le : fees P S.units ≤ most P
      le = fees_le P S.units k.network.safe n1

      stopped : S.accepted ≡ most P → Chain P S → (S.units 0).stopped ≡ true
      stopped e (inl h) = h
      stopped e (inr c) = absurd (omega (arith, k.tally.balance, le, live_weighs c, e))

      waiting : (S.units 0).stopped ≡ false → Chain P S → (m : Msg) × In m S.pool
      waiting e (inl h) = absurd (true_not_false h e)
      waiting e (inr c) = live_waits c

  -- ---- demand 3: for every list of cells

  pub demand3 : (room : ℕ) (cs : List ℕ) → Demand3 P (run P room (make P) cs)
  demand3 room cs = kept_demand3 (run P room (make P) cs) (run-kept room cs)

  -- Any two lists after which unit 1 has stopped report the same total, also where the pools differ in size.
  pub two_runs : (room room' : ℕ) (cs cs' : List ℕ)
      → ((run P room (make P) cs).units 0).stopped ≡ true → ((run P room' (make P) cs').units 0).stopped ≡ true
      → ((run P room (make P) cs).units 0).bound ≡ ((run P room' (make P) cs').units 0).bound
  two_runs room room' cs cs' h h' =
      let d = demand3 room cs in
      let d' = demand3 room' cs' in
      le_antisymm (least_le P _ _ (d.report h) (d.least h) (d'.report h')) (least_le P _ _ (d'.report h') (d'.least h') (d.report h))

  -- The counts of records and of accepted deliveries fit two words of 64 bits.
  pub counts_fit : P.n ≤ 16 → (room : ℕ) (cs : List ℕ)
      → (length (written (run P room (make P) cs).units P.n) < 2 ^ 128) × ((run P room (make P) cs).accepted < 2 ^ 128)
  counts_fit n16 room cs = (
    subst (λ x. x < 2 ^ 128) (sym (length_written S.units P.n)) (records_fit P laws S.units (run-kept room cs).network.safe n16),
    le_trans (suc-le-suc (demand3 room cs).bounded) (most-fits P laws n16),
  )
    where
      S : Network
      S = run P room (make P) cs

  -- ---- the shed never sticks: until unit 1 stops some cell's delivery is accepted, in a pool with room for n × n + n messages

  pub progress : (room : ℕ) → room_needed P ≤ room → (cs : List ℕ) → ((run P room (make P) cs).units 0).stopped ≡ false
      → (c : ℕ) × ((deliver P room (run P room (make P) cs) c).accepted ≡ suc (run P room (make P) cs).accepted)
  progress room enough cs st =
      let d = demand3 room cs in
      let w = d.waits st in
      moving_accepts P laws n1 room enough (run P room (make P) cs) (run_moving P laws n1 room enough cs) st w.0 w.1 d.honest

  -- 01's pool has 1,024 cells
  pub enough_room : P.n ≤ 16 → room_needed P ≤ pool_cells
  enough_room n16 = omega (arith, mul-le-mul n16 n16)
