-- Converting a stored table loses nothing: there and back gives the first file's bytes, a file already in the form wanted stays as it is, and the
-- converted file reads back as the stream in the other form. By the parts of a stream (Form/Parts), and RoundTrip for the blocks.
-- Over the definitions that the contract of `convert` cites, in order:
-- 1. an accepted stream in the other form is accepted, with the same n, sizes and pair costs (accepted_in_lem, same_shape, in_form_lem);
-- 2. the two conversions of a stream undo each other (one_and_back, two_and_back);
-- 3. a file already in the form wanted (already_there);
-- 4. there and back (there_and_back, and of what the calls leave in buffers, converts_back);
-- 5. the converted file is accepted, and reads back (converted-accepted, converted_reads).
-- Assumes nothing.
use Rattle.std.specs.Prelude.{ℕ, ◌*◌, ◌≤◌, ◌<◌, Bool, true, false, cond, List, ◌++◌, ◌≡◌, ltb, eqb, length, take, drop, replicate}
use Rattle.std.proofs.Common.{arith, ap, ◌∙◌}
use Rattle.std.proofs.Math.Path.{refl, sym}
use borrow.Author.Tests.{eqb-true, ltb-false, lt-ltb, le-ltb}
use Rattle.base.specs.declared.Length.{Length}
use Rattle.base.specs.Limits.{block_size, stream_size}
use Rattle.base.specs.Bytes.Laws.{AllBytes}
use Rattle.base.specs.Refusal.{or_else}
use Rattle.base.specs.Refusal.Laws.{or_left, or_right, or_first}
use Rattle.table.specs.declared.Form.{Form}
use Rattle.table.specs.declared.Form.TheVariants.{One, Two}
use Rattle.table.specs.Stream.{in_form_two, units_of, sizes_of, sum_list, pairs_in, Accepted}
use Rattle.table.specs.StreamLaws.{unaries_one, accepted-sizes_length}
use Rattle.table.specs.Block.{all_zero, blocks_for}
use Rattle.table.specs.BlockLaws.{zeros, zeros_are}
use Rattle.table.specs.{Written.file_of, File.stream_of, File.read_refusal, File.read_of, File.read_into}
use Rattle.table.specs.FileLaws.{read_stream, written_length_lem, gives-accepted}
use Rattle.table.specs.RoundTrip.{AcceptedFile, front_of, stream_back, accepted_back, file_back, reads_file}
use Rattle.table.specs.Form.{form_of, to_two, to_one, in_form, no_unary, lossless, convert_refusal, converted, convert_of, convert_into}
use Rattle.table.specs.Form.Parts.{one_with, two_with, unaries_of, pairs_of, one_form, one_units, one_sizes, one_pairs, two_units, two-sizes, two_unaries, two-pairs, one_accepted, two-accepted, good_pairs, good_unaries, as_one, as_two, one_to_two, two_to_one, zeros_good}

-- ---- 1. the stream in the other form

-- n, sizes and pair costs are the same
pub record SameShape (s t : List ℕ) : Type 0 where
  pub units : units_of t ≡ units_of s
  pub sizes : sizes_of t ≡ sizes_of s
  pub count : pairs_in (sizes_of t) ≡ pairs_in (sizes_of s)
  pub pairs : pairs_of t ≡ pairs_of s

-- a stream of form one has no unary cost
pub no_unary_one : (s : List ℕ) → in_form_two s ≡ false → no_unary s ≡ true
unfolding all_zero
no_unary_one s e = rw (unaries_one s e)

module _ (s : List ℕ) (ok : Accepted s) where
  -- the unary costs of a stream of form one, all zero
  abbrev no_costs : List ℕ
  no_costs = replicate (2 * sum_list (sizes_of s)) 0

  two_of : in_form_two s ≡ false → to_two s ≡ two_with (sizes_of s) no_costs (pairs_of s)
  two_of e = ap to_two (as_one s ok e) ∙ one_to_two (sizes_of s) (pairs_of s) (good_pairs s ok).few

  one_of : in_form_two s ≡ true → to_one s ≡ one_with (sizes_of s) (pairs_of s)
  one_of e = ap to_one (as_two s ok e) ∙ two_to_one (sizes_of s) (unaries_of s) (pairs_of s) (good_unaries s ok e).counted

  pub accepted_in_lem : (form : Form) → Accepted (in_form form s)
  accepted_in_lem form = go form (in_form_two s) refl
    where
      go : (form : Form) (t : Bool) → in_form_two s ≡ t → Accepted (in_form form s)
      go One true e = rw (e, one_of e) (one_accepted (sizes_of s) (pairs_of s) (good_pairs s ok))
      go One false e = rw e ok
      go Two true e = rw e ok
      go Two false e = rw (e, two_of e) (two-accepted (sizes_of s) no_costs (pairs_of s) (good_pairs s ok) (zeros_good (sizes_of s)))

  pub same_shape : (form : Form) → SameShape s (in_form form s)
  same_shape form = go form (in_form_two s) refl
    where
      same : SameShape s s
      same = record { units = refl; sizes = refl; count = refl; pairs = refl }

      one : SameShape s (one_with (sizes_of s) (pairs_of s))
      one =
          let few = (good_pairs s ok).few in
          record {
            units = one_units (sizes_of s) (pairs_of s) few ∙ accepted-sizes_length s ok;
            sizes = one_sizes (sizes_of s) (pairs_of s) few;
            count = ap pairs_in (one_sizes (sizes_of s) (pairs_of s) few);
            pairs = one_pairs (sizes_of s) (pairs_of s) few;
          }

      two : SameShape s (two_with (sizes_of s) no_costs (pairs_of s))
      two =
          record {
            units = two_units (sizes_of s) no_costs (pairs_of s) ∙ accepted-sizes_length s ok;
            sizes = two-sizes (sizes_of s) no_costs (pairs_of s);
            count = ap pairs_in (two-sizes (sizes_of s) no_costs (pairs_of s));
            pairs = two-pairs (sizes_of s) no_costs (pairs_of s) (zeros_good (sizes_of s)).counted;
          }

      go : (form : Form) (t : Bool) → in_form_two s ≡ t → SameShape s (in_form form s)
      go One true e = rw (e, one_of e) one
      go One false e = rw e same
      go Two true e = rw e same
      go Two false e = rw (e, two_of e) two

  -- and it is in the form asked for
  pub in_one : in_form_two (in_form One s) ≡ false
  in_one = go (in_form_two s) refl
    where
      go : (t : Bool) → in_form_two s ≡ t → in_form_two (in_form One s) ≡ false
      go true e = rw (e, one_of e) (one_form (sizes_of s) (pairs_of s) (good_pairs s ok).few)
      go false e = rw e e

  pub in_two : in_form_two (in_form Two s) ≡ true
  in_two = go (in_form_two s) refl
    where
      go : (t : Bool) → in_form_two s ≡ t → in_form_two (in_form Two s) ≡ true
      go true e = rw e e
      go false e = rw (e, two_of e)

  pub in_form_lem : (form : Form) → form_of (in_form form s) ≡ form
  in_form_lem One = rw in_one
  in_form_lem Two = rw in_two

  -- ---- 2. the two conversions of a stream undo each other

  pub one_and_back : in_form_two s ≡ false → to_one (to_two s) ≡ s
  one_and_back e = ap to_one (two_of e) ∙ two_to_one (sizes_of s) no_costs (pairs_of s) (zeros_good (sizes_of s)).counted ∙ sym (as_one s ok e)

  pub two_and_back : in_form_two s ≡ true → no_unary s ≡ true → to_two (to_one s) ≡ s
  two_and_back e z =
      let u : no_costs ≡ unaries_of s = zeros_are (unaries_of s) (2 * sum_list (sizes_of s)) z (good_unaries s ok e).counted in
      ap to_two (one_of e) ∙ one_to_two (sizes_of s) (pairs_of s) (good_pairs s ok).few ∙ ap (λ (l : List ℕ). two_with (sizes_of s) l (pairs_of s)) u ∙ sym (as_two s ok e)

  -- so, where nothing is lost, back in the form that it was in it is the same
  pub stream_and_back : (form : Form) → lossless form s ≡ true → in_form (form_of s) (in_form form s) ≡ s
  stream_and_back form z = go form z (in_form_two s) refl
    where
      go : (form : Form) → lossless form s ≡ true → (t : Bool) → in_form_two s ≡ t → in_form (form_of s) (in_form form s) ≡ s
      go One z true e = rw (e, rw e at in_one) (two_and_back e z)
      go One z false e = rw (e, e)
      go Two z true e = rw (e, e)
      go Two z false e = rw (e, rw e at in_two) (one_and_back e)

  -- and nothing is lost on the way back
  pub back_loses_nothing : (form : Form) → lossless (form_of s) (in_form form s) ≡ true
  back_loses_nothing form = go form (in_form_two s) refl
    where
      go : (form : Form) (t : Bool) → in_form_two s ≡ t → lossless (form_of s) (in_form form s) ≡ true
      go form true e = rw e
      go One false e = rw e (no_unary_one s e)
      go Two false e =
          rw (e, two_of e)
          (ap all_zero (two_unaries (sizes_of s) no_costs (pairs_of s) (zeros_good (sizes_of s)).counted) ∙ zeros (2 * sum_list (sizes_of s)))

-- ---- a file converted: the answers of convert_refusal

-- the bytes that its blocks need
abbrev pub space_for : Form → List ℕ → ℕ
space_for form f = block_size * blocks_for (length (in_form form (stream_of f)))

convert_passed : (x : ℕ) (a b : Bool) → ◌≡◌ {A = ℕ} (or_else x (or_else (cond a 13 0) (cond b 0 18))) 0 → (x ≡ 0) × (a ≡ false) × (b ≡ true)
convert_passed x true b e = absurd (omega (arith, or_right x 13 e))
convert_passed x false false e = absurd (omega (arith, or_right x 18 e))
convert_passed x false true e = (or_left x 0 e, refl, refl)

module _ (form : Form) (f : List ℕ) (room : ℕ) (ok : convert_refusal form f room ≡ 0) where
  convert_tests : (read_refusal f stream_size ≡ 0) × (ltb room (space_for form f) ≡ false) × (lossless form (stream_of f) ≡ true)
  unfolding convert_refusal
  convert_tests = convert_passed (read_refusal f stream_size) (ltb room (space_for form f)) (lossless form (stream_of f)) ok

  pub convert_file : AcceptedFile f
  unfolding AcceptedFile
  convert_file = convert_tests.0

  pub convert_lossless : lossless form (stream_of f) ≡ true
  convert_lossless = convert_tests.2

module _ (form : Form) (f : List ℕ) (room : ℕ) where
  pub refused_file : (r : ℕ) → r ≡ read_refusal f stream_size → (r ≡ 0 → ⊥) → r ≡ convert_refusal form f room
  unfolding convert_refusal
  refused_file r e n = sym (rw (← e) (or_first r (or_else (cond (ltb room (space_for form f)) 13 0) (cond (lossless form (stream_of f)) 0 18)) n))

  pub refused_space : AcceptedFile f → room < space_for form f → 13 ≡ convert_refusal form f room
  unfolding AcceptedFile convert_refusal
  refused_space ok h = rw (ok, lt-ltb room (space_for form f) h)

  pub refused_loss : AcceptedFile f → space_for form f ≤ room → lossless form (stream_of f) ≡ false → 18 ≡ convert_refusal form f room
  unfolding AcceptedFile convert_refusal
  refused_loss ok h l = rw (ok, le-ltb room (space_for form f) h, l)

pub accepted-stream : (f : List ℕ) → AcceptedFile f → Accepted (stream_of f)
unfolding AcceptedFile
accepted-stream f ok = read_stream f stream_size ok

module _ (form : Form) (f : List ℕ) (ok : AcceptedFile f) (none : lossless form (stream_of f) ≡ true) where
  pub convert_accepts : (room : ℕ) → length (converted form f) ≤ room → convert_refusal form f room ≡ 0
  unfolding AcceptedFile convert_refusal
  convert_accepts room h = rw (ok, le-ltb room (space_for form f) (rw (← written_length_lem (in_form form (stream_of f))) h), none)

  -- so the call gives the file in that form, in front of what was there
  pub convert_gives : (out : List ℕ) → length (converted form f) ≤ length out
      → (convert_of form f (length out) ≡ record { refusal = 0; length = length (converted form f) }) × (convert_into form f out ≡ converted form f ++ drop (length (converted form f)) out)
  unfolding convert_of convert_into
  convert_gives out h =
      let g = gives-accepted (convert_refusal form f (length out)) 0 (sym (convert_accepts (length out) h)) (length (converted form f)) (converted form f) out refl in
      (sym g.0, sym g.1)

-- what the call says it wrote fits the buffer
pub convert_fits : (form : Form) (f : List ℕ) (room : ℕ) (r : Length) → r ≡ convert_of form f room → r.length ≤ room
unfolding convert_of
convert_fits form f room r e = rw e (go (eqb (convert_refusal form f room) 0) refl)
  where
    go : (t : Bool) → eqb (convert_refusal form f room) 0 ≡ t → cond t (length (converted form f)) 0 ≤ room
    go true e =
        let space = ltb-false room (space_for form f) (convert_tests form f room (eqb-true (convert_refusal form f room) 0 e)).1 in
        omega (arith, space, written_length_lem (in_form form (stream_of f)))
    go false e = omega arith

-- ---- 3. a file already in the form wanted

same_form_lem : (s : List ℕ) → in_form (form_of s) s ≡ s
same_form_lem s = go (in_form_two s) refl
  where
    go : (t : Bool) → in_form_two s ≡ t → in_form (form_of s) s ≡ s
    go true e = rw (e, e)
    go false e = rw (e, e)

module _ (f : List ℕ) (ok : AcceptedFile f) (bytes : AllBytes f) where
  stays : converted (form_of (stream_of f)) f ≡ f
  stays = ap file_of (same_form_lem (stream_of f)) ∙ file_back f ok bytes

  -- 02: "A file already in the form wanted comes out as it went in."
  pub already_there : (form : Form) → form_of (stream_of f) ≡ form → converted form f ≡ f
  already_there form e = rw (← e) stays

  pub comes_out_as_it_went_in : (form : Form) → form_of (stream_of f) ≡ form → (out : List ℕ) → length f ≤ length out
      → (convert_of form f (length out) ≡ record { refusal = 0; length = length f }) × (convert_into form f out ≡ f ++ drop (length f) out)
  comes_out_as_it_went_in form e out h =
      let n : lossless (form_of (stream_of f)) (stream_of f) ≡ true = rw (same_form_lem (stream_of f)) at (back_loses_nothing (stream_of f) (accepted-stream f ok) (form_of (stream_of f))) in
      let g = convert_gives (form_of (stream_of f)) f ok n out (rw stays h) in
      rw (← e) (rw stays at g)

-- ---- 4. there and back

module _ (form : Form) (f : List ℕ) (room : ℕ) (ok : convert_refusal form f room ≡ 0) where
  accepted : Accepted (stream_of f)
  accepted = accepted-stream f (convert_file form f room ok)

  -- the stream of the converted file
  pub converted-stream : stream_of (converted form f) ≡ in_form form (stream_of f)
  converted-stream = stream_back (in_form form (stream_of f)) (accepted_in_lem (stream_of f) accepted form)

  pub converted-accepted : AcceptedFile (converted form f)
  converted-accepted = accepted_back (in_form form (stream_of f)) (accepted_in_lem (stream_of f) accepted form)

  module _ (bytes : AllBytes f) where
    back_is_first : converted (form_of (stream_of f)) (converted form f) ≡ f
    back_is_first =
        ap (λ (s : List ℕ). file_of (in_form (form_of (stream_of f)) s)) converted-stream
        ∙ ap file_of (stream_and_back (stream_of f) accepted form (convert_lossless form f room ok))
        ∙ file_back f (convert_file form f room ok) bytes

    back_loses : lossless (form_of (stream_of f)) (stream_of (converted form f)) ≡ true
    back_loses = rw converted-stream (back_loses_nothing (stream_of f) accepted form)

    -- 02: "there and back gives the first file's bytes"
    pub there_and_back : (room' : ℕ) → length f ≤ room'
        → (convert_refusal (form_of (stream_of f)) (converted form f) room' ≡ 0) × (converted (form_of (stream_of f)) (converted form f) ≡ f)
    there_and_back room' h =
        (convert_accepts (form_of (stream_of f)) (converted form f) converted-accepted back_loses room' (rw back_is_first h), back_is_first)

    back_gives : (out : List ℕ) → length f ≤ length out
        → (convert_of (form_of (stream_of f)) (converted form f) (length out) ≡ record { refusal = 0; length = length f })
        × (convert_into (form_of (stream_of f)) (converted form f) out ≡ f ++ drop (length f) out)
    back_gives out h =
        rw back_is_first at (convert_gives (form_of (stream_of f)) (converted form f) converted-accepted back_loses out (rw back_is_first h))

-- the file that a converting left in a lent buffer: as many bytes as it said
abbrev pub converted_left : Form → List ℕ → List ℕ → List ℕ
converted_left form f out = take (convert_of form f (length out)).length (convert_into form f out)

-- what an accepted converting left in any buffer, converted back into any buffer that is long enough, is the first file
pub converts_back : (form : Form) (f out out' : List ℕ) → (convert_of form f (length out)).refusal ≡ 0 → AllBytes f → length f ≤ length out'
    → (convert_of (form_of (stream_of f)) (converted_left form f out) (length out') ≡ record { refusal = 0; length = length f })
    × (convert_into (form_of (stream_of f)) (converted_left form f out) out' ≡ f ++ drop (length f) out')
unfolding convert_of convert_into
converts_back form f out out' z bytes h =
    rw (front_of (convert_refusal form f (length out)) (converted form f) out z) (back_gives form f (length out) z bytes out' h)

-- ---- 5. the converted file read

pub converted_reads : (form : Form) (f : List ℕ) (room : ℕ) → convert_refusal form f room ≡ 0 → (out : List ℕ) → stream_size ≤ length out
    → (read_of (converted form f) (length out) ≡ record { refusal = 0; length = length (in_form form (stream_of f)) })
    × (read_into (converted form f) out ≡ in_form form (stream_of f) ++ drop (length (in_form form (stream_of f))) out)
converted_reads form f room ok out h = reads_file (in_form form (stream_of f)) (accepted_in_lem (stream_of f) (accepted form f room ok) form) out h
