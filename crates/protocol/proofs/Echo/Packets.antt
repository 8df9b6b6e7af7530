-- From messages to packets: a packet reads as one valid message only (`reads_one`), so a message that was never handed over is, where packets read as
-- messages, a packet that was never handed over (`unheard_packet`), and an echo of a packet that was sent is an echo of a message that was (`read_in`).
--
-- In order: `read_of`, the one message that a packet can be; a packet of a list, read; `unheard_packet`.
-- Assumes nothing.
use Rattle.std.specs.Prelude.{ℕ, suc, ◌≤◌, pred, ◌≡◌, refl, cond, List, [], ◌∷◌, ltb, eqb}
use Rattle.std.proofs.Common.{sym, ap, ◌∙◌, subst, inl, inr, arith, lt-ltb, le-ltb, eq-eqb, ne_eqb}
use Rattle.base.specs.Members.{In, here, there}
use Rattle.base.specs.Members.Laws.{not-in-nil, in_right}
use Rattle.costs.specs.declared.ValueOrder.{ValueOrder}
use Rattle.costs.specs.Instance.{Instance}
use Rattle.costs.specs.Laws.{Sound}
use Rattle.costs.specs.Laws.Prefix.{pre}
use Rattle.costs.specs.Laws.Tried.{places_at, problem_by, places_of_values}
use Rattle.message.specs.declared.Message.{Message}
use Rattle.message.specs.declared.Kind.{Kind}
use Rattle.message.specs.declared.Kind.TheVariants.{Cpa, Request, Estimate, Solution, Stop}
use Rattle.message.specs.Message.{Packet}
use Rattle.protocol.specs.Problem.{ValidBound, NONE}
use Rattle.protocol.specs.Machine.{Msg, down, back, request, estimate, solution, stop, Agent}
use Rattle.protocol.specs.Safety.Facts.{ValidMsg}
use Rattle.protocol.specs.Safety.Logs.{logs, Recorded, Safe}
use Rattle.protocol.proofs.Safety.Network.{before}
use Rattle.protocol.specs.Simulation.Stamps.{rank}
use Rattle.protocol.specs.Simulation.Relations.{ValuesAre, BestIs, Reads, ReadAll}
use Rattle.protocol.specs.Simulation.Units.{ReadAs}
use Rattle.protocol.proofs.Simulation.Units.{read_as}
use Rattle.protocol.specs.Simulation.Report.{full_read}
use Rattle.protocol.specs.Echo.Events.{Trace, Unheard}
use Rattle.protocol.specs.Echo.Run.{Kept}

module _ (order : ValueOrder) (I : Instance) (snd : Sound I) where
  -- ---- the one message that a packet can be

  -- the places, in the order tried, of the first f values
  abbrev places : ℕ → List ℕ → List ℕ
  places f l = places_at order I (pre f l)

  abbrev best_of : Message → List ℕ
  best_of x = cond (eqb x.bound NONE) [] (places I.n x.best)

  abbrev by_kind : Kind → Message → ℕ → ℕ → Msg
  by_kind Cpa x k j =
      cond (ltb x.sender x.receiver) (down k (rank k x.stamp) (places k x.values) x.bound (best_of x)) (back k (rank (suc k) x.stamp) (places (suc k) x.values) x.bound (best_of x))
  by_kind Request x k j = request k j (rank (suc j) x.stamp) (places (suc j) x.values)
  by_kind Estimate x k j = estimate k j (rank (suc k) x.stamp) x.cost
  by_kind Solution x k j = solution k x.bound (best_of x)
  by_kind Stop x k j = stop k x.bound (best_of x)

  abbrev read_of : Packet → Msg
  read_of p = by_kind p.kind p.message (pred p.message.receiver) (pred p.message.sender)

  best_is : (x : Message) (B : ℕ) (l : List ℕ) → x.bound ≡ B → ValidBound (problem_by order I) B l → BestIs order I x.best l → best_of x ≡ l
  best_is x B l e (inl h) b = rw (eq-eqb x.bound NONE (e ∙ h.0)) (sym h.1)
  best_is x B l e (inr h) b =
      rw (ne_eqb x.bound NONE (λ q. absurd (omega (arith, q, e, h.0, h.1.2)))) (ap (places_at order I) (full_read order I snd l x.best h.1.0 b) ∙ places_of_values order I l h.1.1)

  module _ (us : ℕ → Agent) (safe : Safe (problem_by order I) us) where
    -- a prefix on record
    values_are : (k s f : ℕ) (l b : List ℕ) → k ≤ I.n → ValuesAre order I f l b → Recorded (logs us) k s b → places f l ≡ b
    values_are k s f l b le v past = ap (places_at order I) v.are ∙ places_of_values order I b ((before (problem_by order I) us safe k le).domains s b past)

    read_is : (p : Packet) (m : Msg) → Reads order I p m → ValidMsg (problem_by order I) (Recorded (logs us)) m → read_of p ≡ m
    read_is p (down k s b B l) h ok =
        rw (h.0, h.1, lt-ltb p.message.sender (suc k) h.2, h.3.is, values_are k s k p.message.values b (omega (arith, ok.0)) h.4 ok.2, best_is p.message B l h.6 ok.3 h.7, h.6)
    read_is p (back k s b B l) h ok =
        rw (h.0, h.1, le-ltb p.message.sender (suc k) (omega (arith, h.2)), h.3.is, values_are (suc k) s (suc k) p.message.values b (omega (arith, ok.0)) h.4 ok.1, best_is p.message B l h.6 ok.3 h.7, h.6)
    read_is p (request k j s b) h ok = rw (h.0, h.1, h.2, h.3.is, values_are (suc j) s (suc j) p.message.values b (omega (arith, ok.0, ok.1)) h.4 ok.2)
    read_is p (estimate k j s e) h ok = rw (h.0, h.1, h.2, h.3.is, h.4)
    read_is p (solution k B l) h ok = rw (h.0, h.1, best_is p.message B l h.2 ok.1 h.3, h.2)
    read_is p (stop k B l) h ok = rw (h.0, h.1, best_is p.message B l h.2 ok.2 h.3, h.2)

    pub reads_one : (p : Packet) (m m' : Msg) → Reads order I p m → Reads order I p m' → ValidMsg (problem_by order I) (Recorded (logs us)) m → ValidMsg (problem_by order I) (Recorded (logs us)) m'
        → m ≡ m'
    reads_one p m m' r r' ok ok' = sym (read_is p m r ok) ∙ read_is p m' r' ok'

  -- ---- a packet of a list, read

  pub read_in : (p : Packet) (ps : List Packet) (ms : List Msg) → ReadAll order I ps ms → In p ps → (m : Msg) × In m ms × Reads order I p m
  read_in p [] ms h i = absurd (not-in-nil i)
  read_in p (q ∷ ps) [] h i = absurd h
  read_in p (q ∷ ps) (m ∷ ms) h (here e) = (m, here refl, subst (λ x. Reads order I x m) (sym e) h.0)
  read_in p (q ∷ ps) (m ∷ ms) h (there i) = let r = read_in p ps ms h.1 i in (r.0, there r.1, r.2)

  -- ---- a message that was never handed over is a packet that wasn't

  pub unheard_packet : (T : Trace) → Kept (problem_by order I) T → (waiting handed : List Packet) → ReadAll order I waiting T.network.pool → ReadAll order I handed T.handed
      → (m : Msg) → Unheard T m → (p : Packet) × In p waiting × (In p handed → ⊥)
  unheard_packet T kept waiting handed w h m u =
      (q.packet, subst (In q.packet) (sym q.whole) (in_right q.front (here refl)), λ i. again (read_in q.packet handed T.handed h i))
    where
      q : ReadAs order I waiting m
      q = read_as order I waiting T.network.pool m w u.0

      again : (x : Msg) × In x T.handed × Reads order I q.packet x → ⊥
      again x =
          let same : x.0 ≡ m =
          reads_one T.network.units kept.network.safe q.packet x.0 m x.2 q.reads (kept.network.msgs x.0 (kept.handed_sent x.0 x.1))
          (kept.network.msgs m (kept.waiting_sent m u.0)) in
          u.1 (subst (λ y. In y T.handed) same x.1)
