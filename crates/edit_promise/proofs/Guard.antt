-- The texts between the steps of a removal. [s, e) is taken out from the back; where an LF follows it, a CR stands before that LF meanwhile, so
-- that no step parts a CR from its LF.
use mathlib.Core.Path.{◌≡◌, refl, sym, ap, ◌∙◌}
use mathlib.Core.Bool.{Bool, true, false, ◌&&◌, false≢true}
use mathlib.Core.List.{List, [], ◌∷◌, ◌++◌, append_assoc}
use Prim.Native.Nat.{ℕ, zero, suc, ◌+◌, ◌-◌, ◌≤◌, ◌<◌}
use native.Mathlib.Omega.{arith}
use lib.Dec.{eqb}
use lib.ListN.{length, take, drop, get_or, length-append, length-drop, take-append-drop}
use lib.Seq.{length-take-le, take-suc, take-append-le, take-take, drop-drop, take_at, drop_at}
use borrow.Author.Tests.{eqb-true}
use Rattle.plain.specs.Chars.{encode}
use Rattle.plain.specs.Count.{cr_last, lf_first}
use Rattle.plain.specs.Place.{bytes}
use Rattle.plain.specs.Edit.{put_in, cut_out}
use Rattle.plain.proofs.Logic.{and_none}
use Rattle.plain.proofs.Encode.{encode-append}
use Rattle.tree.proofs.Seams.{cr-none}
use Rattle.edit_promise.specs.Turned.{Loose}

-- whether the text before a place ends in CR is seen from its last char
pub cr-at : (cs : List ℕ) (q : ℕ) → q < length cs → cr_last (take (suc q) cs) ≡ eqb (get_or cs q 0) 0x0D
unfolding cr_last
cr-at [] q h = absurd (omega arith)
cr-at (x ∷ cs) zero h = refl
cr-at (x ∷ []) (suc q) h = absurd (omega arith)
cr-at (x ∷ y ∷ cs) (suc q) h = cr-at (y ∷ cs) q (omega arith)

-- ── a text cut from the back ──

module _ (cs : List ℕ) (e : ℕ) (high : e ≤ length cs) where
  pub cut-none : cut_out e e cs ≡ cs
  cut-none = take-append-drop e cs

  module _ (q : ℕ) (low : q ≤ e) where
    rest_at : drop q (cut_out q e cs) ≡ drop e cs
    rest_at = drop_at (take q cs) (drop e cs) q (length-take-le q cs (omega arith))

    front_at : (s : ℕ) → s ≤ q → take s (cut_out q e cs) ≡ take s cs
    front_at s h = take-append-le s (take q cs) (drop e cs) (omega (arith, length-take-le q cs (omega arith))) ∙ take-take s q cs h

    pub cut-length : length (cut_out q e cs) ≡ q + (length cs - e)
    cut-length = omega (arith, length-append (take q cs) (drop e cs), length-take-le q cs (omega arith), length-drop e cs)

    -- more of it, to a place before
    pub cut-more : (s : ℕ) → s ≤ q → cut_out s q (cut_out q e cs) ≡ cut_out s e cs
    cut-more s h = ap (λ (l : List ℕ). l ++ drop q (cut_out q e cs)) (front_at s h) ∙ ap (λ (l : List ℕ). take s cs ++ l) rest_at

    -- what may be taken out at first may be taken out further on
    pub cut-loose : (s : ℕ) → s ≤ q → Loose cs s e → Loose (cut_out q e cs) s q
    cut-loose s h f x l k =
        ap (λ (t : List ℕ). cr_last t && lf_first (drop q (cut_out q e cs))) (front_at x (omega arith))
        ∙ ap (λ (t : List ℕ). cr_last (take x cs) && lf_first t) rest_at ∙ f x l (omega arith)

-- where no LF follows
pub loose-end : (cs : List ℕ) (s e : ℕ) → lf_first (drop e cs) ≡ false → Loose cs s e
loose-end cs s e h q l k = ap (λ (t : Bool). cr_last (take q cs) && t) h ∙ and_none (cr_last (take q cs))

-- ── with the guard: a CR put in at e ──

abbrev pub guarded : ℕ → List ℕ → List ℕ
guarded e cs = put_in e (0x0D ∷ []) cs

module _ (cs : List ℕ) (s e : ℕ) (low : s ≤ e) (high : e ≤ length cs) where
  guard-rest : drop e (guarded e cs) ≡ 0x0D ∷ drop e cs
  guard-rest = drop_at (take e cs) (0x0D ∷ drop e cs) e (length-take-le e cs high)

  guard-take : (q : ℕ) → q ≤ e → take q (guarded e cs) ≡ take q cs
  guard-take q h = take-append-le q (take e cs) (0x0D ∷ drop e cs) (omega (arith, length-take-le e cs high)) ∙ take-take q e cs h

  pub guard-length : length (guarded e cs) ≡ length cs + 1
  guard-length = omega (arith, length-append (take e cs) (0x0D ∷ drop e cs), length-take-le e cs high, length-drop e cs)

  -- the text before s is as it was
  pub guard-front : cr_last (take s (guarded e cs)) ≡ cr_last (take s cs)
  guard-front = ap (λ (l : List ℕ). cr_last l) (guard-take s low)

  pub guard-loose : (q : ℕ) → Loose (guarded e cs) q e
  unfolding lf_first
  guard-loose q = loose-end (guarded e cs) q e (ap (λ (l : List ℕ). lf_first l) guard-rest)

  -- a CR before s: that one goes, and the guard stays in its place
  module _ (cr : cr_last (take s cs) ≡ true) where
    pub cr-place : 1 ≤ s
    cr-place = go s refl
      where
        go : (k : ℕ) → s ≡ k → 1 ≤ k
        go zero f = absurd (false≢true (sym cr-none ∙ ap (λ (k : ℕ). cr_last (take k cs)) (sym f) ∙ cr))
        go (suc k) f = omega arith

    last : take s cs ≡ take (s - 1) cs ++ (0x0D ∷ [])
    last =
        let z : s ≡ suc (s - 1) = omega (arith, cr-place) in
        let l : s - 1 < length cs = omega (arith, cr-place) in
        let x : get_or cs (s - 1) 0 ≡ 0x0D = eqb-true (get_or cs (s - 1) 0) 0x0D (sym (cr-at cs (s - 1) l) ∙ ap (λ (k : ℕ). cr_last (take k cs)) (sym z) ∙ cr) in
        ap (λ (k : ℕ). take k cs) z ∙ take-suc cs (s - 1) 0 l ∙ ap (λ (y : ℕ). take (s - 1) cs ++ (y ∷ [])) x

    pub guard-stays : cut_out (s - 1) e (guarded e cs) ≡ cut_out s e cs
    guard-stays =
        ap (λ (l : List ℕ). l ++ drop e (guarded e cs)) (guard-take (s - 1) (omega arith))
        ∙ ap (λ (l : List ℕ). take (s - 1) cs ++ l) guard-rest
        ∙ sym (append_assoc (take (s - 1) cs) (0x0D ∷ []) (drop e cs))
        ∙ ap (λ (l : List ℕ). l ++ drop e cs) (sym last)

  -- none: the guard goes after the rest
  abbrev between : List ℕ
  between = cut_out s e (guarded e cs)

  between_is : cut_out s e (guarded e cs) ≡ take s cs ++ (0x0D ∷ drop e cs)
  between_is = ap (λ (l : List ℕ). l ++ drop e (guarded e cs)) (guard-take s low) ∙ ap (λ (l : List ℕ). take s cs ++ l) guard-rest

  long : length (take s cs) ≡ s
  long = length-take-le s cs (omega arith)

  before : take s (cut_out s e (guarded e cs)) ≡ take s cs
  before = ap (take s) between_is ∙ take_at (take s cs) (0x0D ∷ drop e cs) s long

  behind : drop (s + 1) (cut_out s e (guarded e cs)) ≡ drop e cs
  behind =
      ap (drop (s + 1)) (between_is ∙ sym (append_assoc (take s cs) (0x0D ∷ []) (drop e cs)))
      ∙ drop_at (take s cs ++ (0x0D ∷ [])) (drop e cs) (s + 1) (omega (arith, long, length-append (take s cs) (0x0D ∷ [])))

  pub guard-goes : cut_out s (s + 1) (cut_out s e (guarded e cs)) ≡ cut_out s e cs
  guard-goes = ap (λ (l : List ℕ). l ++ drop (s + 1) between) before ∙ ap (λ (l : List ℕ). take s cs ++ l) behind

  pub guard-last : s + 1 ≤ length (cut_out s e (guarded e cs))
  guard-last = omega (arith, ap length between_is, length-append (take s cs) (0x0D ∷ drop e cs), long)

  pub guard-alone : cr_last (take s cs) ≡ false → Loose (cut_out s e (guarded e cs)) s (s + 1)
  guard-alone h q l k =
      let z : q ≡ s = omega arith in
      ap (λ (j : ℕ). cr_last (take j between) && lf_first (drop (s + 1) between)) z
      ∙ ap (λ (t : List ℕ). cr_last t && lf_first (drop (s + 1) between)) before
      ∙ ap (λ (t : Bool). t && lf_first (drop (s + 1) between)) h

-- ── sizes ──

bytes-append : (a b : List ℕ) → bytes (a ++ b) ≡ bytes a + bytes b
bytes-append a b = ap length (encode-append a b) ∙ length-append (encode a) (encode b)

pub put-bytes : (p : ℕ) (new cs : List ℕ) → bytes (put_in p new cs) ≡ bytes cs + bytes new
put-bytes p new cs =
    omega (arith, bytes-append (take p cs) (new ++ drop p cs), bytes-append new (drop p cs), bytes-append (take p cs) (drop p cs), ap (λ (l : List ℕ). bytes l) (take-append-drop p cs))

pub cut-bytes : (s e : ℕ) (cs : List ℕ) → s ≤ e → bytes (cut_out s e cs) ≤ bytes cs
cut-bytes s e cs h =
    omega (
      arith,
      bytes-append (take s cs) (drop e cs),
      bytes-append (take s cs) (drop s cs),
      ap (λ (l : List ℕ). bytes l) (take-append-drop s cs),
      bytes-append (take (e - s) (drop s cs)) (drop (e - s) (drop s cs)),
      ap (λ (l : List ℕ). bytes l) (take-append-drop (e - s) (drop s cs)),
      ap (λ (l : List ℕ). bytes l) (drop-drop (e - s) s cs),
      ap (λ (k : ℕ). bytes (drop k cs)) (sum s e h),
    )
  where
    sum : (s e : ℕ) → s ≤ e → s + (e - s) ≡ e
    sum s e h = omega arith
