-- What the functions of this crate come to, from what those below answered.
use Rattle.answer.specs.Answers.{Answer, outcome}
use Rattle.std.specs.Prelude.{Ok, Err}
use mathlib.Core.Path.{◌≡◌, sym, ap, subst, ◌∙◌}
use mathlib.Core.Bool.{Bool, cond}
use mathlib.Core.List.{List, []}
use Prim.Native.Nat.{ℕ, ◌-◌, ◌≤◌, ◌<◌, min}
use native.Mathlib.Omega.{arith}
use borrow.Author.Tests.{lt-ltb, le-ltb}
use Rattle.plain.specs.Outcome.{Outcome, Outcome.value}
use Rattle.plain.proofs.Logic.{cut}
use Rattle.answer.specs.declared.Refusal.{Refusal}
use Rattle.text_info.specs.declared.TextSum.{TextSum}
use Rattle.pool.specs.declared.Kid.{Kid}
use Rattle.child_search.specs.declared.Measure.{Measure}
use Rattle.child_search.specs.declared.Measure.TheVariants.{CharEnds}
use Rattle.note_head.specs.Head.{root_of, height_of}
use Rattle.leaf_parts.specs.Parts.{leaf_text, byte_in, spot_of}
use Rattle.edit_steps.specs.declared.Edit.{Edit}
use Rattle.edit_steps.specs.Made.{Made, edit}
use Rattle.edit_steps.specs.Acts.{Act, reading, onward, Did}
use Rattle.descent.specs.declared.Part.{Part}
use Rattle.descent.specs.declared.Part.TheVariants.{Bytes, Inside}
use Rattle.descent.specs.Descent.{edited_at}
use Rattle.root_step.specs.Root.{rooted_by}
use Rattle.splices.specs.Splices.{rooted_after, descended, spliced, lay, inside_at, byte_at, inner, put_at, lesser, taken_out, cut_at}

-- ── the lesser of two ──

module _ (a b : ℕ) where
  lesser-first : a < b → a ≡ lesser a b
  lesser-first h = sym (ap (λ (t : Bool). cond t a b) (lt-ltb a b h))

  lesser-second : b ≤ a → b ≡ lesser a b
  lesser-second h = sym (ap (λ (t : Bool). cond t a b) (le-ltb a b h))

  pub lesser-is : min a b ≡ lesser a b
  lesser-is = cut a b (λ h. omega (arith, lesser-first h)) (λ h. omega (arith, lesser-second h))

-- ── an edit of one leaf ──

pub made_as : (o : Act Made) (made x : Answer Edit) (after : List ℕ) → made ≡ x → Did edit o made after → Did edit o x after
made_as o made x after e d = subst (λ (y : Answer Edit). Did edit o y after) e d

rooted-done : (o : Act Made) (made : Answer Edit) (mid : List ℕ) (r : Answer (Unit {0})) (after : List ℕ) → Did edit o made mid → Did outcome (rooted_by mid (edit made)) r after
    → Did outcome (rooted_by o.1 o.0) r after
rooted-done o made mid r after d f =
    let e : rooted_by mid (edit made) ≡ rooted_by o.1 o.0 = ap (λ (l : List ℕ). rooted_by l (edit made)) d.memory ∙ ap (λ (x : Outcome Made). rooted_by o.1 x) d.answered in
    subst (λ (a : Act (Unit {0})). Did outcome a r after) e f

module _ (m : List ℕ) (by : Measure) (at : ℕ) where
  pub descend-done : (part : Part) (piece : List ℕ) (k : Kid) (h s : ℕ) (made : Answer Edit) (after : List ℕ)
      → k ≡ root_of m → h ≡ height_of m → s ≡ k.slot → Did edit (edited_at m h s by at part piece) made after → Did edit (descended m by at part piece) made after
  descend-done part piece k h s made after x y z d =
      let w : edited_at m h s by at part piece ≡ descended m by at part piece
      = ap (λ (j : ℕ). edited_at m j s by at part piece) y ∙ ap (λ (j : ℕ). edited_at m (height_of m) j by at part piece) (z ∙ ap (λ (c : Kid). c.slot) x) in
      subst (λ (o : Act Made). Did edit o made after) w d

  pub splice-done : (part : Part) (piece : List ℕ) (made : Answer Edit) (mid : List ℕ) (r : Answer (Unit {0})) (after : List ℕ)
      → Did edit (descended m by at part piece) made mid → Did outcome (rooted_by mid (edit made)) r after → Did outcome (spliced m by at part piece) r after
  unfolding spliced
  splice-done part piece made mid r after d f = rooted-done (descended m by at part piece) made mid r after d f

  -- ── a piece put in ──

  module _ (piece : List ℕ) (r : Answer (ℕ × TextSum)) (found : outcome r ≡ spot_of m by at) where
    abbrev put : ℕ × TextSum → Act (Unit {0})
    put c = spliced m by at (Bytes (byte_at m c (inner at c)) (byte_at m c (inner at c))) piece

    pub put_refused : (q : Refusal) → r ≡ Err q → Did outcome (put_at m by at piece) (Err q) m
    unfolding put_at
    put_refused q e =
        let z : reading m (outcome (Err q)) put ≡ reading m (spot_of m by at) put = ap (λ (o : Outcome (ℕ × TextSum)). reading m o put) (sym (ap outcome e) ∙ found) in
        record { answered = ap (λ (a : Act (Unit {0})). a.0) z; memory = ap (λ (a : Act (Unit {0})). a.1) z }

    pub put-done : (leaf : ℕ) (left : TextSum) → r ≡ Ok (leaf, left) → (text : List ℕ) → text ≡ leaf_text m leaf → (q : ℕ) → q ≡ at - left.chars
        → (j : ℕ) → j ≡ byte_in text q → (v : Answer (Unit {0})) (after : List ℕ) → Did outcome (spliced m by at (Bytes j j) piece) v after → Did outcome (put_at m by at piece) v after
    unfolding put_at
    put-done leaf left e text t q x j y v after d =
        let w : j ≡ byte_in (leaf_text m leaf) (at - left.chars) = y ∙ ap (byte_in text) x ∙ ap (λ (l : List ℕ). byte_in l (at - left.chars)) t in
        let z : spliced m by at (Bytes j j) piece ≡ reading m (spot_of m by at) put
        = ap (λ (n : ℕ). spliced m by at (Bytes n n) piece) w ∙ ap (λ (o : Outcome (ℕ × TextSum)). reading m o put) (sym (ap outcome e) ∙ found) in
        subst (λ (a : Act (Unit {0})). Did outcome a v after) z d

-- ── inside one leaf ──

module _ (m : List ℕ) (at k : ℕ) (piece : List ℕ) (made : Answer Edit) (mid : List ℕ) (d : Did edit (descended m CharEnds at (Inside k) piece) made mid)
    (v : Answer (Unit {0})) (after : List ℕ) (f : Did outcome (rooted_by mid (edit made)) v after) where
  abbrev o : Act Made
  o = descended m CharEnds at (Inside k) piece

  -- by what was put into the head
  told-by : reading after (outcome v) (λ u. (value (lay (edit made)), after)) ≡ inside_at m at k piece
  told-by =
      let e = rooted-done o made mid v after d f in
      ap (λ (l : List ℕ). reading l (outcome v) (λ u. (value (lay (edit made)), l))) e.memory
      ∙ ap (λ (x : Outcome (Unit {0})). reading (rooted_after o).1 x (λ u. (value (lay (edit made)), (rooted_after o).1))) e.answered
      ∙ ap (λ (x : Outcome Made). reading (rooted_after o).1 (rooted_after o).0 (λ u. (value (lay x), (rooted_after o).1))) d.answered

  pub inside-refused : (q : Refusal) → v ≡ Err q → Did outcome (inside_at m at k piece) (Err q) after
  inside-refused q h =
      let z : reading after (outcome {A = Unit {0}} (Err q)) (λ u. (value (lay (edit made)), after)) ≡ inside_at m at k piece
      = ap (λ (w : Answer (Unit {0})). reading after (outcome w) (λ u. (value (lay (edit made)), after))) (sym h) ∙ told-by in
      record { answered = ap (λ (a : Act Bool). a.0) z; memory = ap (λ (a : Act Bool). a.1) z }

  pub inside-told : v ≡ (Ok tt) → (b : Bool) → b ≡ lay (edit made) → Did outcome (inside_at m at k piece) (Ok b) after
  inside-told h b e =
      let z : reading after (outcome {A = Unit {0}} (Ok tt)) (λ u. (value (lay (edit made)), after)) ≡ inside_at m at k piece
      = ap (λ (w : Answer (Unit {0})). reading after (outcome w) (λ u. (value (lay (edit made)), after))) (sym h) ∙ told-by in
      record { answered = ap (λ (x : Bool). value x) e ∙ ap (λ (a : Act Bool). a.0) z; memory = ap (λ (a : Act Bool). a.1) z }

-- ── chars taken out ──

module _ (m : List ℕ) (at k : ℕ) (r : Answer (ℕ × TextSum)) (found : outcome r ≡ spot_of m CharEnds at) where
  pub cut-refused : (q : Refusal) → r ≡ Err q → Did outcome (cut_at m at k) (Err q) m
  unfolding cut_at
  cut-refused q e =
      let z : reading m (outcome (Err q)) (taken_out m at k) ≡ reading m (spot_of m CharEnds at) (taken_out m at k)
      = ap (λ (o : Outcome (ℕ × TextSum)). reading m o (taken_out m at k)) (sym (ap outcome e) ∙ found) in
      record { answered = ap (λ (a : Act ℕ). a.0) z; memory = ap (λ (a : Act ℕ). a.1) z }

  module _ (leaf : ℕ) (left : TextSum) (e : r ≡ Ok (leaf, left)) (text : List ℕ) (t : text ≡ leaf_text m leaf) (q : ℕ) (x : q ≡ at - left.chars) (c : ℕ) (y : c ≡ lesser k q)
      (i : ℕ) (start : i ≡ byte_in text (q - c)) (j : ℕ) (end : j ≡ byte_in text q) (v : Answer (Unit {0})) (after : List ℕ) (d : Did outcome (spliced m CharEnds at (Bytes i j) []) v after) where
    abbrev cutting : ℕ → ℕ → ℕ → Act ℕ
    cutting a b n = onward (spliced m CharEnds at (Bytes a b) []) (λ u l. (value n, l))

    cut-is : cutting i j c ≡ cut_at m at k
    unfolding cut_at
    cut-is =
        ap (λ (n : ℕ). cutting n j c) start ∙ ap (λ (n : ℕ). cutting (byte_in text (q - c)) n c) end
        ∙ ap (λ (n : ℕ). cutting (byte_in text (q - n)) (byte_in text q) n) y
        ∙ ap (λ (n : ℕ). cutting (byte_in text (n - lesser k n)) (byte_in text n) (lesser k n)) x
        ∙ ap (λ (l : List ℕ). cutting (byte_in l (at - left.chars - lesser k (at - left.chars))) (byte_in l (at - left.chars)) (lesser k (at - left.chars))) t
        ∙ ap (λ (o : Outcome (ℕ × TextSum)). reading m o (taken_out m at k)) (sym (ap outcome e) ∙ found)

    -- by what the edit of the leaf answered
    cut_by : reading after (outcome v) (λ u. (value c, after)) ≡ cut_at m at k
    cut_by =
        ap (λ (l : List ℕ). reading l (outcome v) (λ u. (value c, l))) d.memory
        ∙ ap (λ (o : Outcome (Unit {0})). reading (spliced m CharEnds at (Bytes i j) []).1 o (λ u. (value c, (spliced m CharEnds at (Bytes i j) []).1))) d.answered
        ∙ cut-is

    pub cut-not : (p : Refusal) → v ≡ Err p → Did outcome (cut_at m at k) (Err p) after
    cut-not p h =
        let z : reading after (outcome {A = Unit {0}} (Err p)) (λ u. (value c, after)) ≡ cut_at m at k
        = ap (λ (w : Answer (Unit {0})). reading after (outcome w) (λ u. (value c, after))) (sym h) ∙ cut_by in
        record { answered = ap (λ (a : Act ℕ). a.0) z; memory = ap (λ (a : Act ℕ). a.1) z }

    pub cut-done : v ≡ (Ok tt) → Did outcome (cut_at m at k) (Ok c) after
    cut-done h =
        let z : reading after (outcome {A = Unit {0}} (Ok tt)) (λ u. (value c, after)) ≡ cut_at m at k
        = ap (λ (w : Answer (Unit {0})). reading after (outcome w) (λ u. (value c, after))) (sym h) ∙ cut_by in
        record { answered = ap (λ (a : Act ℕ). a.0) z; memory = ap (λ (a : Act ℕ). a.1) z }
