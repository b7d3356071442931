-- The calls of the crate splices on a memory that holds a note: a piece put in where its side asks, chars that give way to a piece inside one leaf,
-- and some chars before a place taken out.
use Rattle.std.specs.Prelude.{Ok, Err}
use mathlib.Core.Path.{◌≡◌, refl, sym, ap, subst, ◌∙◌}
use mathlib.Core.Bool.{Bool, true, false, cond}
use mathlib.Core.List.{List, [], ◌∷◌}
use mathlib.Core.Logic.{◌⊎◌, ⊎_elim}
use Prim.Native.Nat.{ℕ, ◌-◌, ◌≤◌, ◌<◌}
use native.Mathlib.Omega.{arith}
use lib.ListN.{length, take, take-append-drop}
use Rattle.plain.specs.Utf8.{decode}
use Rattle.plain.specs.Count.{cr_last}
use Rattle.plain.specs.Edit.{replaced, put_in, cut_out}
use Rattle.plain.specs.Outcome.{Outcome.value, Outcome.refused}
use Rattle.answer.specs.Answers.{refusal_number, Answer, outcome}
use Rattle.answer.specs.declared.Refusal.{Refusal}
use Rattle.child_search.specs.declared.Measure.{Measure}
use Rattle.child_search.specs.declared.Measure.TheVariants.{Chars, CharEnds}
use Rattle.tree.proofs.Counts.{valid-nil}
use Rattle.note_head.specs.Head.{n_of}
use Rattle.memory.specs.Formed.{note_bytes}
use Rattle.edit_steps.specs.Acts.{Act, Did}
use Rattle.splices.specs.Splices.{inside_at, put_at, cut_at}
use Rattle.splice_laws.proofs.Put.{Sided, put-held}
use Rattle.splice_laws.proofs.Cut.{CutHeld, cut-held}
use Rattle.splice_laws.proofs.Within.{inside-held}
use Rattle.edit_promise.specs.Turned.{text_in, Turned, Puts, Cuts, Removes}
use Rattle.edit_promise.proofs.Lent.{turned}
use Rattle.edit_promise.proofs.Removal.{turned_same, cut_on, cut-further}
use Rattle.note_edits.specs.Side.{side_of}
use Rattle.note_edits.specs.Tried.{TurnedIf, Tried}

-- the side, by the answer of `behind_cr`
pub side-is : (cs : List ℕ) (p : ℕ) (t : Bool) → t ≡ cr_last (take p cs) → cond t CharEnds Chars ≡ side_of cs p
side-is cs p t e = ap (λ (b : Bool). cond b CharEnds Chars) e

sided : (cs : List ℕ) (p : ℕ) → Sided (side_of cs p) cs p
sided cs p = go (cr_last (take p cs)) refl
  where
    go : (t : Bool) → cr_last (take p cs) ≡ t → Sided (cond t CharEnds Chars) cs p
    go true e = e
    go false e = e

-- ── a piece put in ──

empty : (l : List ℕ) → length l ≡ 0 → l ≡ []
empty [] e = refl
empty (x ∷ l) e = absurd (omega arith)

none-decoded : decode [] ≡ []
unfolding decode
none-decoded = refl

module _ (m : List ℕ) (p : ℕ) (piece : List ℕ) (w : Puts m p piece) where
  -- an empty one
  pub put-none : length piece ≡ 0 → Turned m (put_in p (decode piece) (text_in m)) m
  put-none e =
      let z : piece ≡ [] = empty piece e in
      turned_same m (put_in p (decode piece) (text_in m)) w.holds
      (sym (ap (λ (l : List ℕ). put_in p (decode l) (text_in m)) z ∙ ap (λ (l : List ℕ). put_in p l (text_in m)) none-decoded ∙ take-append-drop p (text_in m)))

  pub put-turned : (by : Measure) → by ≡ side_of (text_in m) p → (r : Answer (Unit {0})) (after : List ℕ) → Did outcome (put_at m by p piece) r after
      → (outcome r ≡ value tt) × Turned m (put_in p (decode piece) (text_in m)) after
  put-turned by e r after d =
      let o = put-held m (n_of m) (note_bytes m) w.holds p piece w.valid w.short w.room by (subst (λ (b : Measure). Sided b (text_in m) p) (sym e) (sided (text_in m) p)) w.here in
      let z : after ≡ o.later = d.memory ∙ ap (λ (x : Act (Unit {0})). x.1) o.is in (
        d.answered ∙ ap (λ (x : Act (Unit {0})). x.0) o.is,
        subst (Turned m (put_in p (decode piece) (text_in m))) (sym z) (turned m o.later (n_of m) o.new (put_in p (decode piece) (text_in m)) o.held o.chars o.kept),
      )

-- ── what was accepted is not refused ──

pub never : {X : Type 0} (r : Answer (Unit {0})) → outcome r ≡ value tt → (q : Refusal) → r ≡ Err q → X
never r a q e = absurd (let z : refused (refusal_number q) ≡ value tt = sym (ap outcome e) ∙ a in let y : ◌≡◌ {A = ℕ} 0 1 = cc in omega arith)

-- ── chars that give way to a piece inside one leaf ──

module _ (m : List ℕ) (p k : ℕ) (piece : List ℕ) (w : Puts m p piece) (way : (piece ≡ []) ⊎ (k ≡ 0)) (r : Answer Bool) (after : List ℕ)
    (d : Did outcome (inside_at m p k piece) r after) where
  pub inside-tried : Tried m (replaced (p - k) p (decode piece) (text_in m)) r after
  inside-tried =
      ⊎_elim
      (λ e. record { done = false; told = d.answered ∙ ap (λ (x : Act Bool). x.0) e; left = d.memory ∙ ap (λ (x : Act Bool). x.1) e })
      (λ o. let z : after ≡ o.later = d.memory ∙ ap (λ (x : Act Bool). x.1) o.is in
      record {
        done = true;
        told = d.answered ∙ ap (λ (x : Act Bool). x.0) o.is;
        left = subst (Turned m (replaced (p - k) p (decode piece) (text_in m))) (sym z)
            (turned m o.later (n_of m) o.new (replaced (p - k) p (decode piece) (text_in m)) o.held o.chars o.kept);
      })
      (inside-held m (n_of m) (note_bytes m) w.holds p k piece w.valid w.short way w.room w.here)

-- what the answer says of it
module _ (m cs : List ℕ) (r : Answer Bool) (after : List ℕ) (p : Tried m cs r after) where
  pub tried-never : {X : Type 0} (q : Refusal) → r ≡ Err q → X
  tried-never q e = absurd (let z : refused (refusal_number q) ≡ value p.done = sym (ap outcome e) ∙ p.told in let y : ◌≡◌ {A = ℕ} 0 1 = cc in omega arith)

  module _ (t : Bool) (e : r ≡ Ok t) where
    done-is : p.done ≡ t
    done-is = let z : value p.done ≡ value t = sym p.told ∙ ap outcome e in cc

    pub was-done : t ≡ true → Turned m cs after
    was-done f = subst (λ (x : Bool). TurnedIf x m cs after) (done-is ∙ f) p.left

    pub was-not : t ≡ false → after ≡ m
    was-not f = subst (λ (x : Bool). TurnedIf x m cs after) (done-is ∙ f) p.left

-- as an insertion, and as a removal
pub inside-put : (m : List ℕ) (p : ℕ) (piece after : List ℕ) → Turned m (replaced (p - 0) p (decode piece) (text_in m)) after → Turned m (put_in p (decode piece) (text_in m)) after
inside-put m p piece after t = let z : p - 0 ≡ p = omega arith in subst (λ (x : ℕ). Turned m (replaced x p (decode piece) (text_in m)) after) z t

pub inside-cut : (m : List ℕ) (s e : ℕ) → s ≤ e → (after : List ℕ) → Turned m (replaced (e - (e - s)) e (decode []) (text_in m)) after → Turned m (cut_out s e (text_in m)) after
inside-cut m s e h after t =
    let z : e - (e - s) ≡ s = omega arith in
    subst (λ (l : List ℕ). Turned m (replaced s e l (text_in m)) after) none-decoded (subst (λ (x : ℕ). Turned m (replaced x e (decode []) (text_in m)) after) z t)

-- what a removal asks there
pub cut-puts : (m : List ℕ) (s e : ℕ) → Removes m s e → Puts m e []
cut-puts m s e w = record { holds = w.holds; here = w.high; valid = valid-nil; short = omega arith; room = omega (arith, w.room) }

-- where nothing was changed, what then was done to the same memory
pub turned-again : (m l : List ℕ) → l ≡ m → (f : List ℕ → List ℕ) (after : List ℕ) → Turned l (f (text_in l)) after → Turned m (f (text_in m)) after
turned-again m l e f after t = subst (λ (x : List ℕ). Turned x (f (text_in x)) after) e t

-- ── chars taken out before a place ──

-- so many of [s, e), at least one
pub record Took (m : List ℕ) (s e : ℕ) (r : Answer ℕ) (after : List ℕ) : Type 0 where
  pub count : ℕ
  pub some : 1 ≤ count
  pub most : count ≤ e - s
  pub is : outcome r ≡ value count
  pub left : Turned m (cut_out (e - count) e (text_in m)) after

took_by : (m : List ℕ) (s e : ℕ) (r : Answer ℕ) (after : List ℕ) → Did outcome (cut_at m e (e - s)) r after → CutHeld m (n_of m) (note_bytes m) e (e - s) → Took m s e r after
took_by m s e r after d o =
    let z : after ≡ o.later = d.memory ∙ ap (λ (x : Act ℕ). x.1) o.is in
    record {
      count = o.count;
      some = o.some;
      most = o.most;
      is = d.answered ∙ ap (λ (x : Act ℕ). x.0) o.is;
      left = subst (Turned m (cut_out (e - o.count) e (text_in m))) (sym z) (turned m o.later (n_of m) o.new (cut_out (e - o.count) e (text_in m)) o.held o.chars o.kept);
    }

took : (m : List ℕ) (s e : ℕ) → Cuts m s e → s < e → (r : Answer ℕ) (after : List ℕ) → Did outcome (cut_at m e (e - s)) r after → Took m s e r after
took m s e w h r after d =
    took_by m s e r after d
    (cut-held m (n_of m) (note_bytes m) w.holds e (e - s) (omega arith) (omega arith) (λ c l k. w.loose (e - c) (omega arith) (omega arith)) w.high)

-- ── a turn of the loop: [q, e) is out, and some of [s, q) goes ──

module _ (m : List ℕ) (s e : ℕ) (w : Cuts m s e) (q : ℕ) (low : s ≤ q) (high : q ≤ e) (a : List ℕ) (t : Turned m (cut_out q e (text_in m)) a)
    (some : s < q) (r : Answer ℕ) (after : List ℕ) (d : Did outcome (cut_at a q (q - s)) r after) where
  abbrev step : Took a s q r after
  step = took a s q (cut_on m s e w q low high a t) some r after d

  -- the answer is no refusal
  pub turn-refused : {X : Type 0} (n : Refusal) → r ≡ Err n → X
  turn-refused n f = absurd (let z : refused (refusal_number n) ≡ value step.count = sym (ap outcome f) ∙ step.is in let y : ◌≡◌ {A = ℕ} 0 1 = cc in omega arith)

  module _ (c : ℕ) (f : r ≡ Ok c) where
    count-is : step.count ≡ c
    count-is = let z : value step.count ≡ value c = sym step.is ∙ ap outcome f in cc

    pub turn-some : (1 ≤ c) × (c ≤ q - s)
    turn-some = (omega (arith, step.some, count-is), omega (arith, step.most, count-is))

    pub turn-left : Turned m (cut_out (q - c) e (text_in m)) after
    turn-left =
        cut-further m s e w q low high a t (q - c) (omega arith) after
        (subst (λ (k : ℕ). Turned a (cut_out (q - k) q (text_in a)) after) count-is step.left)
