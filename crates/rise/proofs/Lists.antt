-- Lists of children, cut at one of them: what stands around it, the last one, and those whose numbers have 32 bits.
use mathlib.Core.Path.{◌≡◌, sym, ap, ◌∙◌}
use mathlib.Core.List.{List, [], ◌∷◌, ◌++◌}
use Prim.Native.Nat.{ℕ, zero, suc, ◌+◌, ◌-◌, ◌≤◌}
use native.Mathlib.Omega.{arith}
use lib.ListN.{length, take, drop, get_or, length-append}
use lib.Seq.{take_at, drop_at, get_or_at, append_snoc, take-length, take-suc}
use Rattle.pool.specs.declared.Kid.{Kid}
use Rattle.pool.specs.Slot.{no_kid, Fits}
use Rattle.merge.specs.Join.{AllFit}

-- the child behind `pre` made into others, which may keep its slot
pub spread : (ks pre : List Kid) (k : Kid) (post : List Kid) (i : ℕ) (more : ℕ → List Kid) → ks ≡ pre ++ (k ∷ post) → length pre ≡ i
    → take i ks ++ (more (get_or ks i no_kid).slot ++ drop (i + 1) ks) ≡ pre ++ (more k.slot ++ post)
spread ks pre k post i more e at =
    let q = pre ++ (k ∷ post) in
    let n : length (pre ++ (k ∷ [])) ≡ i + 1 = length-append pre (k ∷ []) ∙ omega (arith, at) in
    ap (λ (l : List Kid). take i l ++ (more (get_or l i no_kid).slot ++ drop (i + 1) l)) e
    ∙ ap (λ (l : List Kid). l ++ (more (get_or q i no_kid).slot ++ drop (i + 1) q)) (take_at pre (k ∷ post) i at)
    ∙ ap (λ (c : Kid). pre ++ (more c.slot ++ drop (i + 1) q)) (get_or_at pre k post no_kid i at)
    ∙ ap (λ (l : List Kid). pre ++ (more k.slot ++ l)) (ap (drop (i + 1)) (sym (append_snoc pre k post)) ∙ drop_at (pre ++ (k ∷ [])) post (i + 1) n)

-- all but the last, and the last
pub all_but_last : (ks : List Kid) → 1 ≤ length ks → ks ≡ take (length ks - 1) ks ++ (get_or ks (length ks - 1) no_kid ∷ [])
all_but_last ks h =
    let n : length ks ≡ suc (length ks - 1) = omega arith in
    sym (take-length ks) ∙ ap (λ (j : ℕ). take j ks) n ∙ take-suc ks (length ks - 1) no_kid (omega arith)

-- ── numbers of 32 bits ──

pub fits-cons : (k : Kid) (ks : List Kid) → Fits k → AllFit ks → AllFit (k ∷ ks)
fits-cons k ks f g zero h = f
fits-cons k ks f g (suc i) h = g i (omega arith)

pub fits-append : (ks ls : List Kid) → AllFit ks → AllFit ls → AllFit (ks ++ ls)
fits-append [] ls f g = g
fits-append (k ∷ ks) ls f g = fits-cons k (ks ++ ls) (f 0 (omega arith)) (fits-append ks ls (λ i h. f (suc i) (omega arith)) g)

-- one of them less
pub fits-less : (ks : List Kid) (x y : Kid) (ls : List Kid) → AllFit (ks ++ (x ∷ y ∷ ls)) → AllFit (ks ++ (x ∷ ls))
fits-less [] x y ls f = fits-cons x ls (f 0 (omega arith)) (λ i h. f (suc (suc i)) (omega arith))
fits-less (k ∷ ks) x y ls f = fits-cons k (ks ++ (x ∷ ls)) (f 0 (omega arith)) (fits-less ks x y ls (λ i h. f (suc i) (omega arith)))
