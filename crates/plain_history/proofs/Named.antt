-- The numbers are the chars' own: number x is the x-th char that entered, and the note reads so after every call.
use mathlib.Core.Path.{◌≡◌, refl, sym, ap, ◌∙◌}
use mathlib.Core.List.{List, [], ◌∷◌, ◌++◌, append-nil}
use Prim.Native.Nat.{ℕ, ◌+◌, ◌≤◌, ◌<◌}
use native.Mathlib.Omega.{arith}
use lib.ListN.{length, get_or, length-append, get_or-append}
use lib.Seq.{get_or-append-add}
use Rattle.plain.specs.Utf8.{decode}
use Rattle.plain.specs.Edit.{replaced}
use Rattle.plain.specs.Outcome.{Outcome, Outcome.value, Outcome.refused}
use Rattle.plain_note.specs.Note.{Note}
use Rattle.plain_calls.specs.Calls.{Call, Call.insert, Call.remove, Call.set_mark, Call.drop_mark, Call.look, Said, called, left, after_all}
use Rattle.plain_calls.specs.Fits.{Fits}
use Rattle.plain_calls.proofs.Accepted.{came}
use Rattle.plain_calls.proofs.Fits.{fits-left}
use Rattle.plain_history.specs.History.{Told, up_from, begun, tell, told, told_all, new_in, entered}
use Rattle.plain_history.specs.Words.{Numbers}
use Rattle.plain_history.proofs.Numbers.{at_before, at_new, at-behind, up-length, up_at, zone}
use Rattle.plain_history.proofs.Kept.{Kept, kept, kept-start}

-- the text by numbers: `chars` are all that ever entered
record Spelt (text order chars : List ℕ) (next : ℕ) : Type 0 where
  all : length chars ≡ next
  each : (i : ℕ) → i < length order → get_or text i 0 ≡ get_or chars (get_or order i 0) 0

spelt-edited : (text order chars new : List ℕ) (next s e : ℕ) → s ≤ e → e ≤ length order → length order ≡ length text → Numbers order next
    → Spelt text order chars next → Spelt (replaced s e new text) (replaced s e (up_from next (length new)) order) (chars ++ new) (next + length new)
spelt-edited text order chars new next s e h k l ns r = record {
  all = omega (arith, length-append chars new, r.all);
  each = λ i b. zone order next s e (length new) h k i b
      (λ a x. at_before s e new text 0 (omega arith) i a ∙ old i (omega arith) ∙ ap (λ (n : ℕ). get_or (chars ++ new) n 0) (sym x))
      (λ j z a x.
      let y : length chars + j ≡ next + j = omega (arith, r.all) in
      ap (λ (n : ℕ). get_or (replaced s e new text) n 0) z ∙ at_new s e new text 0 (omega arith) j a ∙ sym (get_or-append-add chars new j 0) ∙ ap (λ (n : ℕ). get_or (chars ++ new) n 0) (y ∙ sym x))
      (λ j z a x.
      ap (λ (n : ℕ). get_or (replaced s e new text) n 0) z ∙ at-behind s e new text 0 (omega arith) j ∙ old (e + j) a ∙ ap (λ (n : ℕ). get_or (chars ++ new) n 0) (sym x));
}
  where
    old : (i : ℕ) → i < length order → get_or text i 0 ≡ get_or (chars ++ new) (get_or order i 0) 0
    old i a = r.each i a ∙ sym (get_or-append chars new 0 (get_or order i 0) (omega (arith, r.all, ns.below i a)))

abbrev SpeltAs : Note → Told → List ℕ → Type 0
SpeltAs N t chars = Spelt N.text t.order chars t.next

module _ (k : ℕ) (N : Note) (t : Told) (chars : List ℕ) (w : Kept k N t) (r : SpeltAs N t chars) where
  spelt-accepted : (c : Call) (a : Said × Note) → called N c ≡ value a → SpeltAs a.1 (tell k t c a.0) (chars ++ new_in c (value a))
  unfolding tell
  spelt-accepted (insert p piece) a e =
      let v = came N (insert p piece) a e in
      rw v.1 (spelt-edited N.text t.order chars (decode piece) t.next p p (omega arith) (omega (arith, v.0.here, w.same)) w.same w.numbers r)
  spelt-accepted (remove s e) a f =
      let v = came N (remove s e) a f in
      rw v.1 (spelt-edited N.text t.order chars [] t.next s e v.0.rise (omega (arith, v.0.here, w.same)) w.same w.numbers r)
  spelt-accepted (set_mark p) a e = rw (append-nil chars, (came N (set_mark p) a e).1) r
  spelt-accepted (drop_mark j) a e = rw (append-nil chars, (came N (drop_mark j) a e).1) r
  spelt-accepted (look l) a e = rw (append-nil chars, (came N (look l) a e).1) r

  spelt : (c : Call) → SpeltAs (left N (called N c)) (told k t c (called N c)) (chars ++ new_in c (called N c))
  spelt c = go (called N c) refl
    where
      none-new : (c : Call) (n : ℕ) → new_in c (refused n) ≡ []
      none-new (insert p piece) n = refl
      none-new (remove s e) n = refl
      none-new (set_mark p) n = refl
      none-new (drop_mark j) n = refl
      none-new (look l) n = refl

      go : (o : Outcome (Said × Note)) → called N c ≡ o → SpeltAs (left N o) (told k t c o) (chars ++ new_in c o)
      go (value a) e = spelt-accepted c a e
      go (refused n) e = rw (none-new c n, append-nil chars) r

spelt-all : (k : ℕ) (N : Note) (t : Told) (cs : List Call) (chars : List ℕ) → Fits N → Kept k N t → SpeltAs N t chars
    → SpeltAs (after_all N cs) (told_all k t N cs) (entered chars N cs)
spelt-all k N t [] chars f w r = r
spelt-all k N t (c ∷ cs) chars f w r =
    spelt-all k (left N (called N c)) (told k t c (called N c)) cs (chars ++ new_in c (called N c)) (fits-left N f c) (kept k N t f w c) (spelt k N t chars w r c)

spelt-start : (k : ℕ) (N : Note) → SpeltAs N (begun k N) N.text
unfolding begun
spelt-start k N = record {
  all = refl;
  each = λ i h. ap (λ (n : ℕ). get_or N.text n 0) (let z : i ≡ 0 + i = omega arith in z ∙ sym (up_at 0 (length N.text) i (omega (arith, up-length 0 (length N.text)))));
}

-- THEOREM: the char at place i is the one that entered under the number told there
pub chars-numbered : (N : Note) → Fits N → (cs : List Call) (k i : ℕ) → i < length (told_all k (begun k N) N cs).order
    → get_or (after_all N cs).text i 0 ≡ get_or (entered N.text N cs) (get_or (told_all k (begun k N) N cs).order i 0) 0
chars-numbered N f cs k i h = (spelt-all k N (begun k N) cs N.text f (kept-start k N f) (spelt-start k N)).each i h
