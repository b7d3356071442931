-- The seams of a leaf after an edit of it: where an untouched char lies at a seam, the seam is as it was; elsewhere what is around the edit decides.
use mathlib.Core.Path.{◌≡◌, refl, sym, ap, ◌∙◌}
use mathlib.Core.Bool.{Bool, true, false, ◌&&◌}
use mathlib.Core.Logic.{◌⊎◌, ⊎_elim}
use mathlib.Core.List.{List, [], ◌∷◌, ◌++◌, append-nil, append_assoc}
use Prim.Native.Nat.{ℕ, ◌≤◌}
use native.Mathlib.Omega.{arith}
use lib.Dec.{eqb}
use lib.ListN.{length, take, drop, length-append, take-append-drop}
use borrow.Author.Tests.{ne_eqb}
use Rattle.plain.specs.Chars.{encode_char, encode}
use Rattle.plain.specs.Count.{cr_last, lf_first}
use Rattle.plain.specs.Edit.{replaced, put_in, cut_out}
use Rattle.plain.proofs.Logic.{cut, and_none}
use Rattle.plain.proofs.Encode.{encode-1}
use Rattle.plain.proofs.Text.{Laters, shape, lf-encode}
use Rattle.tree.proofs.Seams.{cr-append}
use Rattle.tree_search.proofs.Seams.{Whole, no-back, near-back, near-front, far-front, far-back, over-front, over-back}

-- ── the last byte, and the last char ──

cr-laters : (x : ℕ) (xs : List ℕ) → Laters xs → 1 ≤ length xs → cr_last (x ∷ xs) ≡ false
unfolding cr_last
cr-laters x [] l h = absurd (omega arith)
cr-laters x (y ∷ []) l h = ne_eqb y 0x0D (omega (arith, l.0))
cr-laters x (y ∷ z ∷ zs) l h = cr-laters y (z ∷ zs) l.2 (omega arith)

cr-char : (c : ℕ) → cr_last (encode_char c) ≡ eqb c 0x0D
cr-char c =
    let s = shape c in
    cut c 0x80 (λ h. ap cr_last (encode-1 c h) ∙ (unfold cr_last in refl))
    (λ h. ap cr_last s.is ∙ cr-laters s.head s.tail s.later (s.long h) ∙ sym (ne_eqb c 0x0D (omega arith)))

pub cr-encode : (cs : List ℕ) → cr_last (encode cs) ≡ cr_last cs
unfolding encode cr_last
cr-encode [] = refl
cr-encode (c ∷ []) = ap cr_last (append-nil (encode_char c)) ∙ cr-char c
cr-encode (c ∷ d ∷ cs) =
    cr-append (encode_char c) (encode_char d ++ encode cs) (omega (arith, length-append (encode_char d) (encode cs), ap length (shape d).is))
    ∙ cr-encode (d ∷ cs)

pub whole-encode : (a b : List ℕ) → Whole a b → Whole (encode a) (encode b)
whole-encode a b h = ap (λ (t : Bool). t && lf_first (encode b)) (cr-encode a) ∙ ap (λ (t : Bool). cr_last a && t) (lf-encode b) ∙ h

-- ── a leaf between two texts ──

-- its seams
pub record Seams (before leaf after : List ℕ) : Type 0 where
  pub front : Whole before (leaf ++ after)
  pub back : Whole leaf after

module _ (b leaf a : List ℕ) (old : Seams b leaf a) where
  -- what its seams tell of its parts
  front-part : (j : ℕ) → Whole b (take j leaf)
  front-part j =
      near-back b (take j leaf) (drop j leaf ++ a)
      (ap (λ (l : List ℕ). cr_last b && lf_first l) (sym (append_assoc (take j leaf) (drop j leaf) a) ∙ ap (λ (l : List ℕ). l ++ a) (take-append-drop j leaf)) ∙ old.front)

  back-part : (j : ℕ) → Whole (drop j leaf) a
  back-part j = near-front (take j leaf) (drop j leaf) a (ap (λ (l : List ℕ). cr_last l && lf_first a) (take-append-drop j leaf) ∙ old.back)

  -- a piece between u and what is not empty
  filled-behind : (u piece v : List ℕ) → 1 ≤ length v → Whole v a → Whole (u ++ (piece ++ v)) a
  filled-behind u piece [] n h = absurd (omega arith)
  filled-behind u piece (y ∷ v) n h = ap (λ (l : List ℕ). cr_last l && lf_first a) (sym (append_assoc u piece (y ∷ v))) ∙ far-front (u ++ piece) y v a h

  module _ (j : ℕ) (piece : List ℕ) where
    abbrev new : List ℕ
    new = put_in j piece leaf

    apart : new ++ a ≡ take j leaf ++ ((piece ++ drop j leaf) ++ a)
    apart = append_assoc (take j leaf) (piece ++ drop j leaf) a

    -- THEOREM: a piece put in where no CR is before it, into the leaf with the char behind it, or into the last leaf
    pub put-behind : cr_last (b ++ take j leaf) ≡ false → (a ≡ []) ⊎ (1 ≤ length (drop j leaf)) → Seams b (put_in j piece leaf) a
    put-behind e o =
        record {
          front =
              ap (λ (l : List ℕ). cr_last b && lf_first l) apart
              ∙ over-back b (take j leaf) ((piece ++ drop j leaf) ++ a) (front-part j) (ap (λ (t : Bool). t && lf_first ((piece ++ drop j leaf) ++ a)) e);
          back =
              ⊎_elim (λ n. ap (λ (l : List ℕ). cr_last new && lf_first l) n ∙ no-back new)
              (λ n. filled-behind (take j leaf) piece (drop j leaf) n (back-part j)) o;
        }

    -- THEOREM: a piece put in behind a CR, into the leaf with this CR
    pub put-after-cr : cr_last (take j leaf) ≡ true → 1 ≤ length (take j leaf) → Seams b (put_in j piece leaf) a
    put-after-cr e n =
        record {
          front =
              ap (λ (l : List ℕ). cr_last b && lf_first l) apart
              ∙ far-back b (take j leaf) ((piece ++ drop j leaf) ++ a) (λ z. omega (arith, ap length z)) (front-part j);
          back = go (drop j leaf) refl;
        }
      where
        go : (v : List ℕ) → drop j leaf ≡ v → Whole new a
        go [] z =
            let all : take j leaf ≡ leaf = sym (append-nil (take j leaf)) ∙ ap (λ (l : List ℕ). take j leaf ++ l) (sym z) ∙ take-append-drop j leaf in
            let f : lf_first a ≡ false = sym (ap (λ (t : Bool). t && lf_first a) (ap cr_last (sym all) ∙ e)) ∙ old.back in
            ap (λ (t : Bool). cr_last new && t) f ∙ and_none (cr_last new)
        go (y ∷ v) z = filled-behind (take j leaf) piece (drop j leaf) (omega (arith, ap length z)) (back-part j)

  -- THEOREM: [i, e) of the leaf gives way to a piece, where some of the leaf stays before it and behind it
  pub kept-around : (i e : ℕ) (piece : List ℕ) → 1 ≤ length (take i leaf) → 1 ≤ length (drop e leaf) → Seams b (replaced i e piece leaf) a
  kept-around i e piece n k =
      record {
        front =
            ap (λ (l : List ℕ). cr_last b && lf_first l) (append_assoc (take i leaf) (piece ++ drop e leaf) a)
            ∙ far-back b (take i leaf) ((piece ++ drop e leaf) ++ a) (λ z. omega (arith, ap length z)) (front-part i);
        back = filled-behind (take i leaf) piece (drop e leaf) k (back-part e);
      }

  -- THEOREM: [i, e) of the leaf cut out, where what then meets is whole
  pub cut-between : (i e : ℕ) → Whole (b ++ take i leaf) (drop e leaf ++ a) → Seams b (cut_out i e leaf) a
  cut-between i e h =
      record {
        front =
            ap (λ (l : List ℕ). cr_last b && lf_first l) (append_assoc (take i leaf) (drop e leaf) a) ∙ over-back b (take i leaf) (drop e leaf ++ a) (front-part i) h;
        back = over-front (take i leaf) (drop e leaf) a (near-front b (take i leaf) (drop e leaf ++ a) h) (back-part e);
      }
