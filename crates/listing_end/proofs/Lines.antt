-- The places of the live marks turned into lines: no place is past the end, so that well-formed memory refuses none.
use Rattle.std.specs.Prelude.{Ok, Err}
use mathlib.Core.Path.{◌≡◌, refl, sym, ap, subst, ◌∙◌}
use mathlib.Core.Bool.{Bool, true, false}
use mathlib.Core.List.{List, [], ◌∷◌, ◌++◌}
use Prim.Native.Nat.{ℕ, suc, ◌≤◌}
use native.Mathlib.Omega.{arith}
use lib.ListN.{length, get_or, take, drop, length-map, length-take}
use lib.Seq.{take-append_seam}
use borrow.Author.Tests.{le-ltb}
use Rattle.plain.specs.Count.{line_at}
use Rattle.plain.specs.Place.{count_at}
use Rattle.plain.specs.Outcome.{Outcome, Outcome.value, Outcome.refused, past, mapped, kept}
use Rattle.plain.proofs.Logic.{or-none}
use Rattle.plain.proofs.Outcome.{clash}
use Rattle.plain_note.specs.Note.{Note, Mark, Mark.free, Mark.at, most_by, place_by}
use Rattle.plain_calls.specs.Fits.{Placed}
use Rattle.answer.specs.Answers.{refusal_number, Answer, outcome}
use Rattle.answer.specs.declared.Refusal.{Refusal}
use Rattle.pool.specs.Calls.{Wrote}
use Rattle.memory.specs.Formed.{well_formed, note_of, of_note}
use Rattle.memory.proofs.Formed.{note-called, note-refused}
use Rattle.note_counts.specs.Counts.{any_past, converted_all}
use Rattle.note_counts.specs.declared.Count.TheVariants.{Chars, Lines}
use Rattle.note_counts.proofs.Several.{all_done}
use Rattle.demands.proofs.Fits.{formed-fits}
use Rattle.listing_lines.specs.Puts.{Laid}
use Rattle.listing_end.specs.MarkLines.{places, mark_lines, Lined}

within : (text : List ℕ) (ms : List Mark) → ((k : ℕ) → Placed text (get_or ms k free)) → any_past (length text) (places ms) ≡ false
unfolding places any_past
within text [] h = refl
within text (free ∷ ms) h = within text ms (λ k. h (suc k))
within text (at p ∷ ms) h = or-none (past p (length text)) _ (le-ltb (length text) p (h 0)) (within text ms (λ k. h (suc k)))

turned : (N : Note) → any_past (length N.text) (places N.marks) ≡ false → converted_all Chars Lines (places N.marks) N ≡ value (mark_lines N)
unfolding most_by place_by count_at
turned N e = all_done Chars Lines N (places N.marks) e

module _ (m o o₁ : List ℕ) (n : ℕ) (put : Laid 0 (places (note_of m).marks) o n o₁) (v : Answer (Unit {0})) (ls : List ℕ) (w : Wrote (of_note m (converted_all Chars Lines (take n o₁))) (take n o₁) v ls) where
  abbrev N : Note
  N = note_of m

  called : well_formed m ≡ true → of_note m (converted_all Chars Lines (take n o₁)) ≡ value (mark_lines N)
  called ok =
      note-called m (converted_all Chars Lines (take n o₁)) ok ∙ ap (λ (l : List ℕ). converted_all Chars Lines l N) put.1
      ∙ turned N (within N.text N.marks (formed-fits m ok).placed)

  not-called : well_formed m ≡ false → of_note m (converted_all Chars Lines (take n o₁)) ≡ refused 2
  not-called bad = note-refused m (converted_all Chars Lines (take n o₁)) bad

  -- refused, where the memory is not well formed
  module _ (q : Refusal) (e : v ≡ Err q) where
    said : ◌≡◌ {A = Outcome (Unit {0})} (refused (refusal_number q)) (mapped (λ t. tt) (of_note m (converted_all Chars Lines (take n o₁))))
    said = sym (ap outcome e) ∙ w.answered

    pub lined-refused : (out : List ℕ) → Lined m (Err q) out
    lined-refused out = (go (well_formed m) refl, λ ok. no ok)
      where
        no : {X : Type 0} → well_formed m ≡ true → X
        no ok = clash (refusal_number q) tt (said ∙ ap (mapped (λ t. tt)) (called ok))

        go : (t : Bool) → well_formed m ≡ t → refused (refusal_number q) ≡ of_note m (λ N. value (length (mark_lines N)))
        go true ok = no ok
        go false bad =
            let z : ◌≡◌ {A = Outcome (Unit {0})} (refused (refusal_number q)) (refused 2) = said ∙ ap (mapped (λ t. tt)) (not-called bad) in
            let y : refusal_number q ≡ 2 = cc in
            ap (λ (i : ℕ). refused i) y ∙ sym (note-refused m (λ N. value (length (mark_lines N))) bad)

  -- accepted, where it is
  pub lined-done : v ≡ (Ok tt) → Lined m (Ok n) (ls ++ drop n o₁)
  lined-done e = go (well_formed m) refl
    where
      said : ◌≡◌ {A = Outcome (Unit {0})} (value tt) (mapped (λ t. tt) (of_note m (converted_all Chars Lines (take n o₁))))
      said = sym (ap outcome e) ∙ w.answered

      go : (t : Bool) → well_formed m ≡ t → Lined m (Ok n) (ls ++ drop n o₁)
      go true ok =
          let all : ls ≡ mark_lines N = w.memory ∙ ap (kept (take n o₁)) (called ok) in
          let long : n ≡ length (mark_lines N) = omega (arith, put.0, length-map (places N.marks) (line_at N.text)) in (
            ap (λ (i : ℕ). value i) long ∙ sym (note-called m (λ N. value (length (mark_lines N))) ok),
            λ ok. ap (λ (l : List ℕ). take (length (mark_lines N)) (l ++ drop n o₁)) all ∙ take-append_seam (mark_lines N) (drop n o₁),
          )
      go false bad = clash 2 tt (sym (said ∙ ap (mapped (λ t. tt)) (not-called bad)))

-- so many stand there
pub lined-fits : (m out : List ℕ) (n : ℕ) → Lined m (Ok n) out → (well_formed m ≡ true) × (n ≤ length out) × (take n out ≡ mark_lines (note_of m))
lined-fits m out n l = go (well_formed m) refl
  where
    go : (t : Bool) → well_formed m ≡ t → (well_formed m ≡ true) × (n ≤ length out) × (take n out ≡ mark_lines (note_of m))
    go true ok =
        let e : value n ≡ value (length (mark_lines (note_of m))) = l.0 ∙ note-called m (λ N. value (length (mark_lines N))) ok in
        let z : length (mark_lines (note_of m)) ≡ n = cc in
        let is : take n out ≡ mark_lines (note_of m) = subst (λ (i : ℕ). take i out ≡ mark_lines (note_of m)) z (l.1 ok) in
        (ok, omega (arith, ap length is, length-take n out, z), is)
    go false bad = clash 2 n (sym (l.0 ∙ note-refused m (λ N. value (length (mark_lines N))) bad))

pub lined-not : (m out : List ℕ) (q : Refusal) → Lined m (Err q) out → well_formed m ≡ false
lined-not m out q l = go (well_formed m) refl
  where
    go : (t : Bool) → well_formed m ≡ t → well_formed m ≡ false
    go true ok = clash (refusal_number q) (length (mark_lines (note_of m))) (l.0 ∙ note-called m (λ N. value (length (mark_lines N))) ok)
    go false bad = bad
