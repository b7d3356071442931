-- A text of the Basic Multilingual Plane is well formed exactly where no window of three bytes is wrong and no char is left unfinished (`bmp-scan`).
use mathlib.Core.Path.{◌≡◌, sym, ap, ◌∙◌}
use mathlib.Core.Bool.{Bool, true, false, not, ◌&&◌, ◌||◌, beq, or-true, or-false, and-true, and-false}
use mathlib.Core.List.{List, [], ◌∷◌}
use Prim.Native.Nat.{ℕ, ◌≤◌, ◌<◌}
use native.Mathlib.Omega.{arith}
use lib.Dec.{ltb, leb, eqb}
use borrow.Author.Tests.{lt-ltb, le-ltb, le-leb, lt-leb, ne_eqb}
use Rattle.plain.specs.Utf8.{valid_utf8}
use Rattle.plain.proofs.Logic.{cut}
use Rattle.utf8.specs.Bmp.{highest, valid_bmp}
use Rattle.utf8.specs.Window.{owed, is_later, out_of, bad_at, scan}
use Rattle.utf8.proofs.Highest.{Top, Top.later, Top.first, top, below_both}
use Rattle.utf8.proofs.Windows.{valid-scan}

-- ── where no byte is from F0 on, three bytes tell what four do ──

near-owed : (x y z : ℕ) → x < 0xF0 → owed false x y z ≡ owed true x y z
unfolding owed
near-owed x y z h = sym (ap (λ (t : Bool). (leb 0xC0 z || leb 0xE0 y) || t) (lt-leb 0xF0 x h) ∙ or-false (leb 0xC0 z || leb 0xE0 y))

near-out : (z b : ℕ) → z < 0xF0 → out_of false z b ≡ out_of true z b
unfolding out_of
near-out z b h =
    let l : z < 0xF5 = omega arith in
    simp (lt-leb 0xF0 z h, lt-leb 0xF5 z l, ne_eqb z 0xF0 (λ e. omega arith), ne_eqb z 0xF4 (λ e. omega arith), or-false)

near : (x y z b : ℕ) → x < 0xF0 → z < 0xF0 → bad_at false x y z b ≡ bad_at true x y z b
unfolding bad_at
near x y z b hx hz = λ i. not (beq (near-owed x y z hx i) (is_later b)) || near-out z b hz i

near-scan : (s : List ℕ) (x y z : ℕ) → highest s < 0xF0 → x < 0xF0 → y < 0xF0 → z < 0xF0 → scan false x y z s ≡ scan true x y z s
unfolding scan
near-scan [] x y z h hx hy hz = near-owed x y z hx
near-scan (b ∷ s) x y z h hx hy hz = let l = below_both b s 0xF0 h in λ i. near x y z b hx hz i || near-scan s y z b l.1 hy hz l.0 i

-- ── a byte from F0 on is found ──

high-here : (s : List ℕ) (x y z : ℕ) → 0xF0 ≤ z → scan false x y z s ≡ true
unfolding scan owed bad_at out_of
high-here [] x y z h = let l : 0xC0 ≤ z = omega arith in simp (le-leb 0xC0 z l)
high-here (b ∷ s) x y z h =
    let wrong = (eqb z 0xE0 && ltb b 0xA0) || (eqb z 0xED && leb 0xA0 b) || (leb 0xC0 z && ltb z 0xC2) in
    let owing = not (beq (leb 0xC0 z || leb 0xE0 y) (is_later b)) in
    ap (λ (t : Bool). (owing || (wrong || t)) || scan false y z b s) (le-leb 0xF0 z h) ∙ ap (λ (t : Bool). (owing || t) || scan false y z b s) (or-true wrong) ∙ ap (λ (t : Bool). t || scan false y z b s) (or-true owing)

high-scan : (s : List ℕ) (x y z : ℕ) → 0xF0 ≤ highest s → scan false x y z s ≡ true
unfolding scan
high-scan [] x y z h = absurd (unfold highest in omega arith)
high-scan (b ∷ s) x y z h = ap (λ (t : Bool). bad_at false x y z b || t) (cut b 0xF0 (λ l. high-scan s y z b (under l (top b s))) (high-here s y z b)) ∙ or-true (bad_at false x y z b)
  where
    under : b < 0xF0 → Top b s → 0xF0 ≤ highest s
    under l (later e k) = omega arith
    under l (first e k) = absurd (omega arith)

-- THEOREM
pub bmp-scan : (s : List ℕ) → valid_bmp s ≡ not (scan false 0 0 0 s)
unfolding valid_bmp
bmp-scan s = cut (highest s) 0xF0
    (λ h. ap (λ (t : Bool). valid_utf8 s && t) (lt-ltb (highest s) 0xF0 h) ∙ and-true (valid_utf8 s) ∙ valid-scan s ∙ ap not (sym (near-scan s 0 0 0 h (omega arith) (omega arith) (omega arith))))
    (λ h. ap (λ (t : Bool). valid_utf8 s && t) (le-ltb (highest s) 0xF0 h) ∙ and-false (valid_utf8 s) ∙ sym (ap not (high-scan s 0 0 0 h)))
