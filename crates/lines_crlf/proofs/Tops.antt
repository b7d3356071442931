-- Parts of a text and their highest bytes: none, one byte more, two that lie on one another, all.
use mathlib.Core.Path.{◌≡◌, ap}
use mathlib.Core.List.{List}
use Prim.Native.Nat.{ℕ, ◌+◌, ◌≤◌, ◌<◌}
use native.Mathlib.Omega.{arith}
use lib.ListN.{length, get_or}
use Rattle.plain.proofs.Logic.{cut}
use Rattle.utf8.specs.Bmp.{highest}
use Rattle.utf8.proofs.Highest.{at_most, least}
use Rattle.lines_crlf.specs.Surveyed.{Tops, Higher}

module _ (s : List ℕ) where
  pub tops-none : (a : ℕ) → Tops s a a 0
  tops-none a = record { over = λ k g l. absurd (omega arith); under = omega arith }

  -- one byte by itself
  tops-one : (i : ℕ) → i < length s → Tops s i (i + 1) (get_or s i 0)
  tops-one i h = record { over = λ k g l. let e : k ≡ i = omega arith in omega (arith, ap (λ (j : ℕ). get_or s j 0) e); under = at_most s i h }

  pub tops-join : (a b d e h k r : ℕ) → Tops s a b h → Tops s d e k → d ≤ b → Higher h k r → Tops s a e r
  tops-join a b d e h k r p q l t =
      record {
        over = λ j g m. cut j b (λ n. omega (arith, p.over j g n)) (λ n. omega (arith, q.over j (omega arith) m));
        under = t.no_more (highest s) p.under q.under;
      }

  pub tops-more : (a i h r : ℕ) → i < length s → Tops s a i h → Higher h (get_or s i 0) r → Tops s a (i + 1) r
  tops-more a i h r l p t = tops-join a i i (i + 1) h (get_or s i 0) r p (tops-one i l) (omega arith) t

  pub tops-all : (e h : ℕ) → length s ≤ e → Tops s 0 e h → h ≡ highest s
  tops-all e h l p = omega (arith, p.under, least s h (λ k g. p.over k (omega arith) (omega arith)))
