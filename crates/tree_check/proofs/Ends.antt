-- What the functions over texts show: how a text begins and ends, and that a text is one.
use Rattle.std.specs.Prelude.{Option}
use mathlib.Core.Path.{◌≡◌, refl, sym, ap, subst, ◌∙◌}
use mathlib.Core.Bool.{Bool, true, false, not, ◌&&◌, ◌||◌, and-true}
use mathlib.Core.List.{List, [], ◌∷◌}
use Prim.Native.Nat.{ℕ, zero, suc, ◌<◌}
use native.Mathlib.Omega.{arith}
use lib.Dec.{eqb, leb}
use lib.ListN.{length, get_or}
use borrow.Author.Tests.{lt-ltb, lt-leb, not-true, not-false}
use Rattle.plain.specs.Utf8.{valid_utf8, decode}
use Rattle.plain.specs.Place.{is_start, is_wide}
use Rattle.plain.specs.Count.{bit, count_if, breaks, lf_first, cr_last}
use Rattle.utf8.specs.Bmp.{highest, valid_bmp}
use Rattle.utf8.proofs.Highest.{below_both}
use Rattle.text_info.specs.declared.TextInfo.{TextInfo}
use Rattle.text_info.specs.declared.TextSum.{TextSum}
use Rattle.text_info.proofs.Counts.{raw-text}
use Rattle.tree.specs.Tree.{sum_of}
use Rattle.tree.proofs.Counts.{sum_is}
use Rattle.tree_check.specs.declared.Met.{Met}
use Rattle.tree_check.specs.Met.{TextMet, TextFine}

pub lf-nil : (t : List ℕ) → length t ≡ 0 → false ≡ lf_first t
unfolding lf_first
lf-nil [] h = refl
lf-nil (x ∷ t) h = absurd (omega arith)

pub lf-first : (t : List ℕ) → (length t ≡ 0 → ⊥) → eqb (get_or t 0 0) 0x0A ≡ lf_first t
unfolding lf_first
lf-first [] h = absurd (h refl)
lf-first (x ∷ t) h = refl

pub cr-nil : (t : List ℕ) → length t ≡ 0 → false ≡ cr_last t
unfolding cr_last
cr-nil [] h = refl
cr-nil (x ∷ t) h = absurd (omega arith)

pub cr-last : (t : List ℕ) (i : ℕ) → suc i ≡ length t → eqb (get_or t i 0) 0x0D ≡ cr_last t
unfolding cr_last
cr-last [] i h = absurd (omega arith)
cr-last (x ∷ []) zero h = refl
cr-last (x ∷ []) (suc i) h = absurd (omega arith)
cr-last (x ∷ y ∷ t) zero h = absurd (omega arith)
cr-last (x ∷ y ∷ t) (suc i) h = cr-last (y ∷ t) i (omega arith)

-- ── a text by its highest byte ──

-- ASCII has as many chars as bytes
pub ascii-chars : (s : List ℕ) → highest s < 0x80 → length s ≡ count_if is_start s
unfolding count_if is_start
ascii-chars [] h = refl
ascii-chars (b ∷ s) h = let l = below_both b s 0x80 h in omega (arith, ap bit (ap (λ (t : Bool). t || leb 0xC0 b) (lt-ltb b 0x80 l.0)), ascii-chars s l.1)

-- no byte below F0 begins a char of four
pub low-wides : (s : List ℕ) → highest s < 0xF0 → 0 ≡ count_if is_wide s
unfolding count_if is_wide
low-wides [] h = refl
low-wides (b ∷ s) h = let l = below_both b s 0xF0 h in omega (arith, ap bit (lt-leb 0xF0 b l.0), low-wides s l.1)

-- and where none is, text is text of chars of three bytes at most
pub low-valid : (s : List ℕ) → highest s < 0xF0 → valid_bmp s ≡ valid_utf8 s
unfolding valid_bmp
low-valid s h = ap (λ (t : Bool). valid_utf8 s && t) (lt-ltb (highest s) 0xF0 h) ∙ and-true (valid_utf8 s)

-- counts of bytes are those of the text
pub text-is : (t : List ℕ) (r : TextSum) (lf cr : Bool) → valid_utf8 t ≡ true → r.bytes ≡ length t → r.chars ≡ count_if is_start t → r.utf16_surrogates ≡ count_if is_wide t → r.line_breaks ≡ breaks t
    → lf ≡ lf_first t → cr ≡ cr_last t → TextFine t r lf cr
text-is t r lf cr v b c u l f e =
    let raw = raw-text t v in
    record {
      valid = v;
      told = record {
        counts = sum_is r (sum_of (decode t)) (b ∙ ap (λ (i : TextInfo). i.bytes) raw) (c ∙ ap (λ (i : TextInfo). i.chars) raw) (u ∙ ap (λ (i : TextInfo). i.utf16_surrogates) raw) (l ∙ ap (λ (i : TextInfo). i.line_breaks) raw);
        first = f;
        last = e;
      };
    }

-- the same text by another name
pub text_same : (s t : List ℕ) → s ≡ t → (r : Option Met) → TextMet s r → TextMet t r
text_same s t e r = subst (λ (x : List ℕ). TextMet x r) e

-- ── whether a child may follow, test by test ──

module _ (t r : Bool) (e : r ≡ t) (cr lf : Bool) where
  pub follows-told : not r ≡ true → false ≡ (t && not (cr && lf))
  follows-told n = ap (λ (b : Bool). b && not (cr && lf)) (sym (not-true r n) ∙ e)

  pub follows-cr : not r ≡ false → cr ≡ true → not lf ≡ (t && not (cr && lf))
  follows-cr n c = ap (λ (b : Bool). not (b && lf)) (sym c) ∙ ap (λ (b : Bool). b && not (cr && lf)) (sym (not-false r n) ∙ e)

  pub follows-other : not r ≡ false → cr ≡ false → true ≡ (t && not (cr && lf))
  follows-other n c = ap (λ (b : Bool). not (b && lf)) (sym c) ∙ ap (λ (b : Bool). b && not (cr && lf)) (sym (not-false r n) ∙ e)
