-- No second outcome: two outcomes that meet the promise of a call are equal in answer, refusal, note, marks and edit number, and in every byte but those
-- that tell the tree's shape.
use mathlib.Core.Path.{◌≡◌, refl, sym, ap, subst, ◌∙◌}
use mathlib.Core.List.{List}
use Prim.Native.Nat.{ℕ}
use lib.IntN.{ℤ}
use lib.ListN.{length, drop}
use Rattle.plain.specs.Outcome.{Outcome, Outcome.value, Outcome.refused}
use Rattle.plain_note.specs.Note.{Note, need}
use Rattle.note_head.specs.Head.{n_of}
use Rattle.memory.specs.Formed.{note_of, of_note}
use Rattle.edit_steps.specs.Held.{Kept}
use Rattle.edit_steps.proofs.Keeps.{kept_same, kept-twice, kept_back}
use Rattle.note_promise.specs.Called.{Called, EditCalled, MarkCalled}

-- THEOREM: of any call
module _ {A : Type 0} (o : Note → Outcome (A × Note)) (m : List ℕ) (a b : Outcome A) (x y : List ℕ) (v : Called o m a x) (w : Called o m b y) where
  pub one_answer : a ≡ b
  one_answer = v.answered ∙ sym w.answered

  pub record Alike : Type 0 where
    pub note : note_of x ≡ note_of y
    pub long : length x ≡ length y
    pub beyond : drop (need (n_of m)) x ≡ drop (need (n_of m)) y

  pub one-note : Alike
  one-note = go (of_note m o) refl
    where
      go : (u : Outcome (A × Note)) → of_note m o ≡ u → Alike
      go (value r) e =
          let p = v.left r.0 r.1 e in
          let q = w.left r.0 r.1 e in
          record { note = p.note ∙ sym q.note; long = p.long ∙ sym q.long; beyond = p.beyond ∙ sym q.beyond }
      go (refused n) e =
          let z : x ≡ y = v.unchanged n e ∙ sym (w.unchanged n e) in
          record { note = ap (λ (l : List ℕ). note_of l) z; long = ap length z; beyond = ap (drop (need (n_of m))) z }

-- THEOREM: of an edit, every byte of the head but those of the root, of the height and of the first free slot too
pub one-head : (o : Note → Outcome (ℤ × Note)) (s e : ℕ) (piece m : List ℕ) (a b : Outcome ℤ) (x y : List ℕ)
    → EditCalled o s e piece m a x → EditCalled o s e piece m b y → Kept x y
one-head o s e piece m a b x y v w = go (of_note m o) refl
  where
    go : (u : Outcome (ℤ × Note)) → of_note m o ≡ u → Kept x y
    go (value r) f =
        let p = v.head r.0 r.1 f in
        let q = w.head r.0 r.1 f in
        kept-twice x _ y (kept_back _ x p) q
    go (refused n) f = let z : x ≡ y = v.called.unchanged n f ∙ sym (w.called.unchanged n f) in subst (Kept x) z (kept_same x)

-- THEOREM: of a mark set or dropped, every byte
pub one-memory : {A : Type 0} (o : Note → Outcome (A × Note)) (bytes : A → List ℕ) (m : List ℕ) (a b : Outcome A) (x y : List ℕ)
    → MarkCalled o bytes m a x → MarkCalled o bytes m b y → x ≡ y
one-memory o bytes m a b x y v w = v.memory ∙ sym w.memory
