-- The promises of the calls, from what refused them or from what their steps left.
use Rattle.answer.specs.Answers.{Answer, outcome}
use mathlib.Core.Path.{◌≡◌, refl, sym, ap, subst, ◌∙◌}
use mathlib.Core.Bool.{Bool, true, false, ◌&&◌, cond}
use mathlib.Core.List.{List, []}
use Prim.Native.Nat.{ℕ, ◌≤◌}
use native.Mathlib.Omega.{arith}
use lib.Dec.{eqb}
use lib.IntN.{ℤ}
use lib.ListN.{length}
use Rattle.plain.specs.Utf8.{decode}
use Rattle.plain.specs.Edit.{replaced}
use Rattle.plain.specs.Outcome.{Outcome, Outcome.value, Outcome.refused, mapped}
use Rattle.plain.proofs.Outcome.{clash}
use Rattle.plain_note.specs.Note.{Note, head_size}
use Rattle.plain_calls.specs.Calls.{edited, lines_more}
use Rattle.memory.specs.Formed.{well_formed, note_of, of_note}
use Rattle.memory.proofs.Formed.{note-called, note-refused}
use Rattle.edit_steps.specs.Held.{Kept}
use Rattle.edit_steps.proofs.Keeps.{kept_same}
use Rattle.edit_promise.specs.Edited.{Holding, Edited}
use Rattle.marks.specs.MarkBytes.{edited_put}
use Rattle.note_promise.specs.Called.{Left, Called, EditCalled, followed}
use Rattle.note_promise.proofs.Shape.{formed-shaped}
use Rattle.note_promise.proofs.Edit.{edit-left, edit-head}

-- ── any call ──

module _ {A : Type 0} (o : Note → Outcome (A × Note)) (m : List ℕ) where
  -- THEOREM: a refused call
  pub call-refused : (q : ℕ) → of_note m o ≡ refused q → Called o m (refused q) m
  call-refused q e =
      record {
        answered = sym (ap (mapped (λ r. r.0)) e);
        unchanged = λ n f. refl;
        left = λ a N f. clash q (a, N) (sym e ∙ f);
      }

  -- THEOREM: an accepted one
  pub call-done : (a : A) (N : Note) → of_note m o ≡ value (a, N) → (after : List ℕ) → Left m N after → Called o m (value a) after
  call-done a N e after l =
      record {
        answered = sym (ap (mapped (λ r. r.0)) e);
        unchanged = λ n f. clash n (a, N) (sym f ∙ e);
        left = λ b M f.
            let z : ◌≡◌ {A = Outcome (A × Note)} (value (a, N)) (value (b, M)) = sym e ∙ f in
            let y : ◌≡◌ {A = A × Note} (a, N) (b, M) = cc in
            subst (λ (K : Note). Left m K after) (ap (λ (r : A × Note). r.1) y) l;
      }

-- ── an edit: what it comes to is a text, and with it an answer and a note ──

module _ (o : Note → Outcome (List ℕ)) (s e : ℕ) (piece m : List ℕ) where
  abbrev new : List ℕ
  new = decode piece

  abbrev told : Note → List ℕ → ℤ × Note
  told N t = (lines_more N t, edited s e new N)

  abbrev full : Note → Outcome (ℤ × Note)
  full N = mapped (told N) (o N)

  abbrev Promised : Answer ℤ → List ℕ → Type 0
  Promised r after = EditCalled full s e piece m (outcome r) after

  full-refused : (q : ℕ) → of_note m (λ N. mapped (λ t. lines_more N t) (o N)) ≡ refused q → of_note m full ≡ refused q
  full-refused q f = go (well_formed m) refl
    where
      go : (t : Bool) → well_formed m ≡ t → of_note m full ≡ refused q
      go true ok = note-called m full ok ∙ on (o (note_of m)) refl (sym (note-called m (λ N. mapped (λ t. lines_more N t) (o N)) ok) ∙ f)
        where
          on : (u : Outcome (List ℕ)) → o (note_of m) ≡ u → mapped (λ t. lines_more (note_of m) t) u ≡ refused q → mapped (told (note_of m)) u ≡ refused q
          on (value t) x y = absurd (clash q (lines_more (note_of m) t) (sym y))
          on (refused n) x y = let z : n ≡ q = cc in ap (λ (k : ℕ). refused k) z
      go false w =
          note-refused m full w
          ∙ (let y : refused 2 ≡ refused q = sym (note-refused m (λ N. mapped (λ t. lines_more N t) (o N)) w) ∙ f in let z : 2 ≡ q = cc in ap (λ (k : ℕ). refused k) z)

  -- the text that an accepted one comes to
  pub record Comes (d : ℤ) : Type 0 where
    pub ok : well_formed m ≡ true
    pub text : List ℕ
    pub is : o (note_of m) ≡ value text
    pub by : d ≡ lines_more (note_of m) text

  comes : (d : ℤ) → value d ≡ of_note m (λ N. mapped (λ t. lines_more N t) (o N)) → Comes d
  comes d f = go (well_formed m) refl
    where
      go : (t : Bool) → well_formed m ≡ t → Comes d
      go true ok = on (o (note_of m)) refl (f ∙ note-called m (λ N. mapped (λ t. lines_more N t) (o N)) ok)
        where
          on : (u : Outcome (List ℕ)) → o (note_of m) ≡ u → value d ≡ mapped (λ t. lines_more (note_of m) t) u → Comes d
          on (value t) x y = record { ok = ok; text = t; is = x; by = cc }
          on (refused n) x y = absurd (clash n d (sym y))
      go false w = absurd (clash 2 d (sym (f ∙ note-refused m (λ N. mapped (λ t. lines_more N t) (o N)) w)))

  module _ (idle : Type 0) (r : Answer ℤ) (a : List ℕ) (w : Edited o idle m r a) where
    -- THEOREM: a refused edit
    pub edit-refused : (q : ℕ) → outcome r ≡ refused q → Promised r a
    edit-refused q f =
        let g : of_note m full ≡ refused q = full-refused q (sym w.answered ∙ f) in
        let h : a ≡ m = same-refused q g in
        subst (λ (x : List ℕ). Promised r x) (sym h)
        (record {
          called = subst (λ (x : Outcome ℤ). Called full m x m) (sym f) (call-refused full m q g);
          head = λ d N z. clash q (d, N) (sym g ∙ z);
          still = λ z y. refl;
        })
      where
        same-refused : (q : ℕ) → of_note m full ≡ refused q → a ≡ m
        same-refused q g = go (well_formed m) refl
          where
            go : (t : Bool) → well_formed m ≡ t → a ≡ m
            go true ok = on (o (note_of m)) refl (sym (note-called m full ok) ∙ g)
              where
                on : (u : Outcome (List ℕ)) → o (note_of m) ≡ u → mapped (told (note_of m)) u ≡ refused q → a ≡ m
                on (value t) x y = absurd (clash q (lines_more (note_of m) t, edited s e new (note_of m)) (sym y))
                on (refused n) x y = w.unchanged n (note-called m o ok ∙ x)
            go false wrong = w.unchanged 2 (note-refused m o wrong)

    module _ (d : ℤ) (f : outcome r ≡ value d) where
      pub came : Comes d
      came = comes d (sym f ∙ w.answered)

      all-is : of_note m full ≡ value (d, edited s e new (note_of m))
      all-is =
          note-called m full came.ok ∙ ap (mapped (told (note_of m))) came.is
          ∙ ap (λ (z : ℤ). value (z, edited s e new (note_of m))) (sym came.by)

      holds : Holding m came.text a
      holds = w.edited came.text (note-called m o came.ok ∙ came.is)

      -- the promise, from the memory that is left
      promise : (after : List ℕ) → Left m (edited s e new (note_of m)) after → Kept (followed m s e (length new)) after → (s ≡ e → piece ≡ [] → after ≡ m) → Promised r after
      promise after l k i =
          record {
            called = subst (λ (x : Outcome ℤ). Called full m x after) (sym f) (call-done full m d (edited s e new (note_of m)) all-is after l);
            head = λ c N z. k;
            still = i;
          }

      -- THEOREM: one that changes the text
      pub edit-busy : (eqb s e && eqb (length new) 0) ≡ false → ((s ≡ e) → piece ≡ [] → ⊥) → s ≤ e → e ≤ length (note_of m).text → came.text ≡ replaced s e new (note_of m).text
          → (after : List ℕ) → after ≡ edited_put a s e (length new) → Promised r after
      edit-busy busy not-idle low high text after is =
          let h : Holding m (replaced s e new (note_of m).text) a = subst (λ (t : List ℕ). Holding m t a) text holds in
          subst (λ (x : List ℕ). Promised r x) (sym is)
          (promise (edited_put a s e (length new)) (edit-left m came.ok s e new low high a h busy)
          (subst (λ (t : Bool). Kept (cond t m (edited_put m s e (length new))) (edited_put a s e (length new))) (sym busy) (edit-head m came.ok s e new low high a h))
          (λ x y. absurd (not-idle x y)))

      -- THEOREM: an idle one
      pub edit-idle : idle → (eqb s e && eqb (length new) 0) ≡ true → edited s e new (note_of m) ≡ note_of m → Promised r a
      edit-idle i none same =
          let h : a ≡ m = w.still i in
          promise a
          (subst (λ (x : List ℕ). Left m (edited s e new (note_of m)) x) (sym h) (record { formed = came.ok; note = sym same; long = refl; beyond = refl }))
          (subst (λ (x : List ℕ). Kept (followed m s e (length new)) x) (sym h) (subst (λ (t : Bool). Kept (cond t m (edited_put m s e (length new))) m) (sym none) (kept_same m)))
          (λ x y. h)

-- memory in which an edit was accepted is longer than its head
pub accepted-long : (o : Note → Outcome (List ℕ)) (idle : Type 0) (m : List ℕ) (r : Answer ℤ) (a : List ℕ) → Edited o idle m r a → (d : ℤ) → outcome r ≡ value d → head_size ≤ length a
accepted-long o idle m r a w d f =
    let n = comes o 0 0 [] m d (sym f ∙ w.answered) in
    let h = w.edited n.text (note-called m o n.ok ∙ n.is) in
    omega (arith, h.long, (formed-shaped m n.ok).room)
