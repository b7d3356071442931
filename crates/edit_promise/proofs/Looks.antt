-- The chars on both sides of a place, read from the leaf that holds the char: what lies in a leaf from a char on begins with that char's byte.
use mathlib.Core.Path.{◌≡◌, sym, ap, subst, ◌∙◌}
use mathlib.Core.Bool.{false}
use mathlib.Core.List.{List, [], ◌∷◌, ◌++◌}
use Prim.Native.Nat.{ℕ, suc, ◌+◌, ◌-◌, ◌≤◌, ◌<◌}
use native.Mathlib.Omega.{arith}
use lib.Dec.{eqb}
use lib.ListN.{length, take, drop, get_or, length-drop}
use lib.Seq.{length-take-le, get_or-take, get_or-drop}
use borrow.Author.Tests.{ne_eqb}
use Rattle.plain.specs.Chars.{encode}
use Rattle.plain.specs.Count.{cr_last, lf_first}
use Rattle.plain.proofs.Logic.{cut}
use Rattle.plain.proofs.Text.{shape}
use Rattle.plain.proofs.Count.{lf-at, lf-end}
use Rattle.tree.proofs.Seams.{cr-none}
use Rattle.leaf_parts.specs.Parts.{from_char}
use Rattle.leaf_parts.specs.Front.{FrontChars}
use Rattle.leaf_parts.proofs.Fronts.{from-char-front, front-filled, front-empty}
use Rattle.edit_steps.specs.Held.{Holds}
use Rattle.edit_promise.specs.Turned.{text_in}
use Rattle.edit_promise.proofs.Guard.{cr-at}

-- a char below 128 is its byte
first-is : (b : ℕ) → b < 0x80 → (cs : List ℕ) → 1 ≤ length cs → eqb (get_or (encode cs) 0 0) b ≡ eqb (get_or cs 0 0) b
unfolding encode
first-is b h [] k = absurd (omega arith)
first-is b h (c ∷ cs) k =
    let s = shape c in
    ap (λ (l : List ℕ). eqb (get_or (l ++ encode cs) 0 0) b) s.is
    ∙ cut c 0x80 (λ l. ap (λ (x : ℕ). eqb x b) (s.low l).0) (λ l. ne_eqb s.head b (λ e. omega (arith, s.high l)) ∙ sym (ne_eqb c b (λ e. omega arith)))

-- ── a part of a leaf from a char on ──

module _ (cs : List ℕ) (at : ℕ) (t : List ℕ) (f : FrontChars cs at t) where
  front-first : at < length cs → (b : ℕ) → b < 0x80 → eqb (get_or t 0 0) b ≡ eqb (get_or cs at 0) b
  front-first h b k =
      let some = f.some h in
      let z : at + 0 ≡ at = omega arith in
      ap (λ (l : List ℕ). eqb (get_or l 0 0) b) f.is
      ∙ first-is b k (take f.count (drop at cs)) (omega (arith, some, length-take-le f.count (drop at cs) (omega (arith, length-drop at cs, f.room))))
      ∙ ap (λ (x : ℕ). eqb x b) (get_or-take f.count (drop at cs) 0 0 some ∙ get_or-drop at cs 0 0 ∙ ap (λ (i : ℕ). get_or cs i 0) z)

  empty-lf : length t ≡ 0 → false ≡ lf_first (drop at cs)
  empty-lf e = cut at (length cs) (λ h. absurd (omega (arith, front-filled cs at t f h))) (λ h. sym (lf-end cs at h))

  first-lf : (length t ≡ 0 → ⊥) → eqb (get_or t 0 0) 0x0A ≡ lf_first (drop at cs)
  first-lf n = cut at (length cs) (λ h. front-first h 0x0A (omega arith) ∙ sym (lf-at cs at h)) (λ h. absurd (n (ap length (front-empty cs at t f h))))

-- ── THEOREMS: in a memory that holds a note ──

module _ (m : List ℕ) (w : Holds m) (p : ℕ) (here : p ≤ length (text_in m)) (t : List ℕ) where
  abbrev cs : List ℕ
  cs = text_in m

  part_of : (at : ℕ) → at ≤ length (text_in m) → t ≡ from_char m at → FrontChars (text_in m) at t
  part_of at h e = subst (FrontChars cs at) (sym e) (from-char-front m w.good at h)

  -- the char at a place
  pub lf-none : t ≡ from_char m p → length t ≡ 0 → false ≡ lf_first (drop p (text_in m))
  lf-none e n = empty-lf cs p t (part_of p here e) n

  pub lf-seen : t ≡ from_char m p → (length t ≡ 0 → ⊥) → eqb (get_or t 0 0) 0x0A ≡ lf_first (drop p (text_in m))
  lf-seen e n = first-lf cs p t (part_of p here e) n

  -- the char before it
  pub cr-first : p ≡ 0 → false ≡ cr_last (take p (text_in m))
  cr-first e = sym (ap (λ (k : ℕ). cr_last (take k cs)) e ∙ cr-none)

  module _ (n : p ≡ 0 → ⊥) (e : t ≡ from_char m (p - 1)) where
    positive : 1 ≤ p
    positive = cut 0 p (λ h. omega arith) (λ h. absurd (n (omega arith)))

    before : FrontChars (text_in m) (p - 1) t
    before = part_of (p - 1) (omega arith) e

    pub cr-filled : length t ≡ 0 → false ≡ cr_last (take p (text_in m))
    cr-filled f = absurd (omega (arith, front-filled cs (p - 1) t before (omega (arith, positive))))

    pub cr-seen : eqb (get_or t 0 0) 0x0D ≡ cr_last (take p (text_in m))
    cr-seen =
        let z : suc (p - 1) ≡ p = omega (arith, positive) in
        front-first cs (p - 1) t before (omega (arith, positive)) 0x0D (omega arith)
        ∙ sym (cr-at cs (p - 1) (omega (arith, positive))) ∙ ap (λ (k : ℕ). cr_last (take k cs)) z
