-- What private functions of the converter go by: the stream of the result as pieces of the file's stream. That they make it is `pieces_make`.
-- In order: the definitions; bytes of an accepted file; how long the pieces are, and each byte; a turn of a loop; that the pieces make the stream;
-- the pieces by the bytes that are read, and of an accepted file.
-- Assumes nothing.
use Rattle.std.specs.Prelude.{ℕ, ◌+◌, ◌*◌, ◌-◌, ◌≤◌, ◌<◌, Bool, true, false, cond, List, ◌∷◌, ◌++◌, ◌≡◌, refl, length, get_or, set, take, drop, replicate}
use Rattle.std.proofs.Common.{zero-add, add-one, arith, append_assoc, sym, ap, ◌∙◌, length-take, length-drop, length-append, drop_of_length-le, take-suc, take-add, drop_at, length-take-le, take-suc-set, get_or-take, get_or-drop, get_or-append-add}
use Rattle.std.proofs.lemmas.List.{length-replicate, get_or-replicate}
use Rattle.std.proofs.Math.ListN.{get_or-append}
use Rattle.base.specs.Limits.{form_two, stream_size, block_size}
use Rattle.table.specs.declared.Form.{Form}
use Rattle.table.specs.declared.Form.TheVariants.{One, Two}
use Rattle.table.specs.declared.converter.Pieces.{Pieces}
use Rattle.table.specs.declared.converter.Shape.{Shape}
use Rattle.table.specs.Stream.{in_form_two, opening, units_of, sizes_of, sum_list, unaries_in, unaries_at, pairs_at, Accepted}
use Rattle.table.specs.StreamLaws.{opening_one, opening-two, unaries_two, accepted_units, accepted_length, accepted-most}
use Rattle.table.specs.Block.{all_zero, blocks_for}
use Rattle.table.specs.File.{stream_of, read_refusal}
use Rattle.table.specs.FileLaws.{read_size, read_blocks, read_most, stream_viewed}
use Rattle.table.specs.View.{BlocksAccepted, place_in_file}
use Rattle.table.specs.RoundTrip.{AcceptedFile}
use Rattle.table.specs.Form.{to_two, to_one, in_form, lossless}
use Rattle.table.specs.Form.Laws.{accepted_in_lem, no_unary_one, accepted-stream, space_for}

-- ---- the definitions

abbrev pub pieced : Pieces → List ℕ → List ℕ
pieced p s = replicate p.front form_two ++ (take p.head (drop p.from s) ++ (replicate p.zeros 0 ++ drop p.rest s))

-- they stand in their order in s, and make a stream that isn't too long
pub record Within (p : Pieces) (s : List ℕ) : Type 0 where
  pub ordered : p.from + p.head ≤ p.rest
  pub inside : p.rest ≤ length s
  pub few : p.front + p.head + p.zeros + (length s - p.rest) ≤ stream_size

-- what n and the sizes of a stream say
pub record ShapeOf (s : List ℕ) (shape : Shape) : Type 0 where
  pub units : shape.n ≡ units_of s
  pub sizes : shape.values ≡ sum_list (sizes_of s)
  pub few : shape.n ≤ 16
  pub most : shape.values ≤ 4080

-- a stream in the form wanted; form two of one of form one; form one of one of form two
abbrev pub same_form : Pieces
same_form = record { front = 0; from = 0; head = 0; zeros = 0; rest = 0 }

abbrev pub to_two_pieces : List ℕ → Pieces
to_two_pieces s = record { front = 1; from = 0; head = 1 + units_of s; zeros = 2 * sum_list (sizes_of s); rest = 1 + units_of s }

abbrev pub to_one_pieces : List ℕ → Pieces
to_one_pieces s = record { front = 0; from = 1; head = 1 + units_of s; zeros = 0; rest = pairs_at s }

abbrev pub pieces_of : Form → List ℕ → Pieces
pieces_of One s = cond (in_form_two s) (to_one_pieces s) same_form
pieces_of Two s = cond (in_form_two s) same_form (to_two_pieces s)

-- ---- an accepted file

pub accepted_by : (f : List ℕ) → read_refusal f stream_size ≡ 0 → AcceptedFile f
unfolding AcceptedFile
accepted_by f ok = ok

module _ (f : List ℕ) (ok : AcceptedFile f) where
  pub accepted_blocks : BlocksAccepted f
  unfolding AcceptedFile
  accepted_blocks = (read_size f stream_size ok, read_blocks f stream_size ok)

  pub stream-most : length (stream_of f) ≤ stream_size
  unfolding AcceptedFile
  stream-most = read_most f stream_size ok

  -- byte k of the stream stands in the file
  pub stream_at : (k : ℕ) → k < length (stream_of f) → get_or f (place_in_file k) 0 ≡ get_or (stream_of f) k 0
  stream_at k h = sym ((stream_viewed f accepted_blocks.0 accepted_blocks.1 (length (stream_of f)) refl).placed k h)

-- ---- the pieces: how long they are, and each byte

get_d_behind : (xs ys : List ℕ) (n k : ℕ) → length xs ≡ n → n ≤ k → get_or (xs ++ ys) k 0 ≡ get_or ys (k - n) 0
get_d_behind xs ys n k e h =
    let i : length xs + (k - n) ≡ k = omega arith in
    ap (λ (j : ℕ). get_or (xs ++ ys) j 0) (sym i) ∙ get_or-append-add xs ys (k - n) 0

abbrev head_of : Pieces → List ℕ → List ℕ
head_of p s = take p.head (drop p.from s)

module _ (p : Pieces) (s : List ℕ) (ordered : p.from + p.head ≤ p.rest) (inside : p.rest ≤ length s) where
  head_length : length (head_of p s) ≡ p.head
  head_length = length-take-le p.head (drop p.from s) (simp length-drop (omega arith))

  pieces_length : p.front + p.head + p.zeros + (length s - p.rest) ≡ length (pieced p s)
  pieces_length =
      sym
      (length-append (replicate p.front form_two) (head_of p s ++ (replicate p.zeros 0 ++ drop p.rest s))
      ∙ rw (length-append (head_of p s) (replicate p.zeros 0 ++ drop p.rest s), length-append (replicate p.zeros 0) (drop p.rest s), length-replicate {A = ℕ} p.front form_two, head_length, length-replicate {A = ℕ} p.zeros 0, length-drop p.rest s)
      (omega arith))

module _ (p : Pieces) (s : List ℕ) (w : Within p s) where
  head-whole : length (head_of p s) ≡ p.head
  head-whole = head_length p s w.ordered w.inside

  pub pieced_length : p.front + p.head + p.zeros + (length s - p.rest) ≡ length (pieced p s)
  pieced_length = pieces_length p s w.ordered w.inside

  pub pieced-most : length (pieced p s) ≤ stream_size
  pieced-most = rw (← pieced_length) w.few

  module _ (k : ℕ) where
    pub byte_front : k < p.front → form_two ≡ get_or (pieced p s) k 0
    byte_front h =
        let l : k < length (replicate p.front form_two) = rw (length-replicate {A = ℕ} p.front form_two) h in
        sym (get_or-append (replicate p.front form_two) (head_of p s ++ (replicate p.zeros 0 ++ drop p.rest s)) 0 k l ∙ get_or-replicate p.front k form_two 0 h)

    module _ (a : p.front ≤ k) where
      behind_front : get_or (pieced p s) k 0 ≡ get_or (head_of p s ++ (replicate p.zeros 0 ++ drop p.rest s)) (k - p.front) 0
      behind_front = get_d_behind (replicate p.front form_two) (head_of p s ++ (replicate p.zeros 0 ++ drop p.rest s)) p.front k (length-replicate {A = ℕ} p.front form_two) a

      pub byte_head : k - p.front < p.head → get_or s (p.from + (k - p.front)) 0 ≡ get_or (pieced p s) k 0
      byte_head h =
          sym
          (behind_front ∙ get_or-append (head_of p s) (replicate p.zeros 0 ++ drop p.rest s) 0 (k - p.front) (omega (arith, head-whole))
          ∙ get_or-take p.head (drop p.from s) (k - p.front) 0 h ∙ get_or-drop p.from s (k - p.front) 0)

      module _ (b : p.head ≤ k - p.front) where
        behind_head : get_or (pieced p s) k 0 ≡ get_or (replicate p.zeros 0 ++ drop p.rest s) (k - p.front - p.head) 0
        behind_head = behind_front ∙ get_d_behind (head_of p s) (replicate p.zeros 0 ++ drop p.rest s) p.head (k - p.front) head-whole b

        pub byte_zero : k - p.front - p.head < p.zeros → 0 ≡ get_or (pieced p s) k 0
        byte_zero h =
            let l : k - p.front - p.head < length {A = ℕ} (replicate p.zeros 0) = rw (length-replicate {A = ℕ} p.zeros 0) h in
            sym (behind_head ∙ get_or-append (replicate p.zeros 0) (drop p.rest s) 0 (k - p.front - p.head) l ∙ get_or-replicate p.zeros (k - p.front - p.head) 0 0 h)

        pub byte_rest : p.zeros ≤ k - p.front - p.head → get_or s (p.rest + (k - p.front - p.head - p.zeros)) 0 ≡ get_or (pieced p s) k 0
        byte_rest h =
            sym
            (behind_head ∙ get_d_behind (replicate p.zeros 0) (drop p.rest s) p.zeros (k - p.front - p.head) (length-replicate {A = ℕ} p.zeros 0) h
            ∙ get_or-drop p.rest s (k - p.front - p.head - p.zeros) 0)

-- ---- a turn of a loop that lays bytes of l from byte `from` on into b

pub laid_more : (b l : List ℕ) (from i x : ℕ) → i < length b → from + i < length l → take i b ≡ take i (drop from l) → x ≡ get_or l (from + i) 0
    → take (i + 1) (set b i x) ≡ take (i + 1) (drop from l)
laid_more b l from i x h m inv e =
    let n : i < length (drop from l) = simp length-drop (omega arith) in
    rw (add-one, take-suc-set b i x h, inv, e, take-suc (drop from l) i 0 n, get_or-drop from l i 0)

-- ---- the pieces make the stream in the form wanted

pub pieces_make : (form : Form) (s : List ℕ) → pieced (pieces_of form s) s ≡ in_form form s
unfolding to_one to_two
pieces_make form s = go form (in_form_two s) refl
  where
    go : (form : Form) (t : Bool) → in_form_two s ≡ t → pieced (pieces_of form s) s ≡ in_form form s
    go One true e = rw e
    go One false e = rw e
    go Two true e = rw e
    go Two false e = rw e (ap (λ (l : List ℕ). form_two ∷ l) (sym (append_assoc (take (1 + units_of s) s) (replicate (2 * sum_list (sizes_of s)) 0) (drop (1 + units_of s) s))))

-- what they leave out
drop_of_take : (s : List ℕ) (a m : ℕ) → a ≤ length s → drop a (take (a + m) s) ≡ take m (drop a s)
drop_of_take s a m h = rw (take-add a m s) (drop_at (take a s) (take m (drop a s)) a (length-take-le a s h))

nothing_between : (s : List ℕ) (a : ℕ) → all_zero (drop a (take a s)) ≡ true
unfolding all_zero
nothing_between s a = rw (drop_of_length-le (take a s) {i = a} (simp length-take (omega arith)))

module _ (s : List ℕ) (ok : Accepted s) where
  pub left_out : (form : Form) → all_zero (drop ((pieces_of form s).from + (pieces_of form s).head) (take (pieces_of form s).rest s)) ≡ lossless form s
  left_out form = go form (in_form_two s) refl
    where
      go : (form : Form) (t : Bool) → in_form_two s ≡ t → all_zero (drop ((pieces_of form s).from + (pieces_of form s).head) (take (pieces_of form s).rest s)) ≡ lossless form s
      go One true e =
          let a : 1 + (1 + units_of s) ≡ unaries_at s = omega (arith, opening-two s e) in
          rw (e, a) (ap all_zero (drop_of_take s (unaries_at s) (2 * unaries_in s) (omega (arith, accepted_length s ok))))
      go One false e = rw e (nothing_between s 0 ∙ sym (no_unary_one s e))
      go Two true e = rw e (nothing_between s 0)
      go Two false e = rw (e, zero-add (1 + units_of s)) (nothing_between s (1 + units_of s))

  -- the pieces stand in the stream
  ordered : (form : Form) → (pieces_of form s).from + (pieces_of form s).head ≤ (pieces_of form s).rest
  ordered form = go form (in_form_two s) refl
    where
      go : (form : Form) (t : Bool) → in_form_two s ≡ t → (pieces_of form s).from + (pieces_of form s).head ≤ (pieces_of form s).rest
      go One true e = rw e (omega (arith, opening-two s e))
      go One false e = rw e (omega arith)
      go Two true e = rw e (omega arith)
      go Two false e = rw e (omega arith)

  inside : (form : Form) → (pieces_of form s).rest ≤ length s
  inside form = go form (in_form_two s) refl
    where
      go : (form : Form) (t : Bool) → in_form_two s ≡ t → (pieces_of form s).rest ≤ length s
      go One true e = rw e (omega (arith, accepted_length s ok))
      go One false e = rw e (omega arith)
      go Two true e = rw e (omega arith)
      go Two false e = rw e (omega (arith, accepted_length s ok, opening_one s e))

  pub pieces_within : (form : Form) → Within (pieces_of form s) s
  pieces_within form =
      let m : length (pieced (pieces_of form s) s) ≤ stream_size = rw (pieces_make form s) (accepted-most (in_form form s) (accepted_in_lem s ok form)) in
      record { ordered = ordered form; inside = inside form; few = rw (pieces_length (pieces_of form s) s (ordered form) (inside form)) m }

-- ---- the pieces by the bytes of n and the sizes

module _ (s : List ℕ) (ok : Accepted s) where
  pub two-bytes-there : 1 < length s
  two-bytes-there = omega (arith, accepted_length s ok, (accepted_units s ok).0)

  -- n and the sizes, behind the byte that tells the form or none
  module _ (before n : ℕ) (o : before ≡ opening s) (read : n ≡ get_or s before 0) where
    pub units_read : n ≡ units_of s
    units_read = read ∙ ap (λ (k : ℕ). get_or s k 0) o

    pub sizes-there : (before + 1 + n ≤ length s) × (n ≤ 16)
    sizes-there = (omega (arith, units_read, o, accepted_length s ok), omega (arith, units_read, (accepted_units s ok).1))

    pub shape_read : (values : ℕ) → values ≡ sum_list (take n (drop (before + 1) s)) → values ≤ 4080 → ShapeOf s (record { n = n; values = values })
    shape_read values v most = record { units = units_read; sizes = v ∙ rw (units_read, o); few = sizes-there.1; most = most }

  module _ (shape : Shape) (r : ShapeOf s shape) where
    pub made-two : ◌≡◌ {A = Pieces} (record { front = 1; from = 0; head = 1 + shape.n; zeros = 2 * shape.values; rest = 1 + shape.n }) (to_two_pieces s)
    made-two = rw (r.units, r.sizes)

    pub made_one : in_form_two s ≡ true → ◌≡◌ {A = Pieces} (record { front = 0; from = 1; head = 1 + shape.n; zeros = 0; rest = 2 + shape.n + 2 * shape.values }) (to_one_pieces s)
    made_one e =
        let q : 2 + shape.n + 2 * shape.values ≡ pairs_at s = omega (arith, r.units, r.sizes, opening-two s e, unaries_two s e) in
        rw (q, r.units)

-- ---- the pieces of an accepted file's stream

module _ (form : Form) (f : List ℕ) (ok : AcceptedFile f) (p : Pieces) (made : p ≡ pieces_of form (stream_of f)) where
  pub made-within : Within p (stream_of f)
  made-within = rw made (pieces_within (stream_of f) (accepted-stream f ok) form)

  pub made-stream : pieced p (stream_of f) ≡ in_form form (stream_of f)
  made-stream = rw made (pieces_make form (stream_of f))

  pub made-left_out : all_zero (drop (p.from + p.head) (take p.rest (stream_of f))) ≡ lossless form (stream_of f)
  made-left_out = rw made (left_out (stream_of f) (accepted-stream f ok) form)

  -- the blocks that they need
  pub made_space : (count blocks : ℕ) → count ≡ length (pieced p (stream_of f)) → blocks ≡ blocks_for count → (blocks ≤ 123) × (block_size * blocks ≡ space_for form f)
  made_space count blocks e b =
      let m = pieced-most p (stream_of f) made-within in
      (omega arith, rw (b, e, made-stream))
