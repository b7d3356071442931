-- Laws of the list with given children, and of parts of lists.
use mathlib.Core.Path.{◌≡◌, refl, sym, ap, ◌∙◌}
use mathlib.Core.List.{List, [], ◌∷◌, ◌++◌, append_assoc, append-nil}
use Prim.Native.Nat.{ℕ, suc, ◌+◌, ◌-◌, ◌≤◌, ◌<◌}
use native.Mathlib.Numerals.{add-one}
use native.Mathlib.Omega.{arith}
use lib.ListN.{length, take, drop, set, get_or, replicate, length-append, length-take, drop_of_length-le}
use lib.Seq.{length-take-le, take_all, take_at, set_at, append_snoc, take-suc, drop-append-le}
use Rattle.pool.specs.declared.Kid.{Kid}
use Rattle.node_children.specs.declared.NodeChildren.{NodeChildren}
use Rattle.pool.specs.Slot.{no_kid}
use Rattle.node_children.specs.Kids.{kids, list_of, Holds}

-- ── a list and its children ──

same-list : (m n : ℕ) (a b : List Kid) → m ≡ n → a ≡ b → ◌≡◌ {A = NodeChildren} (record { len = m; arr = a }) (record { len = n; arr = b })
same-list m n a b e f = rw (e, f)

pub kids-length : (c : NodeChildren) → c.len ≤ 16 → length c.arr ≡ 16 → length (kids c) ≡ c.len
kids-length c h w = length-take-le c.len c.arr (omega arith)

pub kids-of : (ks : List Kid) → kids (list_of ks) ≡ ks
unfolding list_of
kids-of ks = take_at ks (replicate (16 - length ks) no_kid) (length ks) refl

pub is-kids : (c : NodeChildren) (ks : List Kid) → c ≡ list_of ks → kids c ≡ ks
is-kids c ks is = ap kids is ∙ kids-of ks

-- the length of a list that has nothing behind its children
pub clean-length : (c : NodeChildren) → c ≡ list_of (kids c) → length (kids c) ≡ c.len
unfolding list_of
clean-length c e = sym (ap (λ (l : NodeChildren). l.len) e)

pub holds : (c : NodeChildren) (n : ℕ) (ks : List Kid) → c.len ≡ n → c ≡ list_of ks → Holds c n ks
holds c n ks e is = record { len = e; is = is; clean = is ∙ ap list_of (sym (is-kids c ks is)) }

pub holds_same : (c : NodeChildren) (m n : ℕ) (ks ls : List Kid) → m ≡ n → ks ≡ ls → Holds c m ks → Holds c n ls
holds_same c m n ks ls e f h = holds c n ls (h.len ∙ e) (h.is ∙ ap list_of f)

-- the list without children
none_is : (k : Kid) → k ≡ no_kid → ◌≡◌ {A = NodeChildren} (record { len = 0; arr = replicate 16 k }) (list_of [])
unfolding list_of
none_is k e = rw e

pub none-holds : (k : Kid) → k ≡ no_kid → Holds (record { len = 0; arr = replicate 16 k }) 0 []
none-holds k e = holds (record { len = 0; arr = replicate 16 k }) 0 [] refl (none_is k e)

-- one child more behind the others
put_is : (c : NodeChildren) (k : Kid) → c.len < 16 → c ≡ list_of (kids c)
    → ◌≡◌ {A = NodeChildren} (record { len = c.len + 1; arr = set c.arr c.len k }) (list_of (kids c ++ (k ∷ [])))
unfolding list_of
put_is c k h e =
    let n : c.len ≡ length (kids c) = ap (λ (l : NodeChildren). l.len) e in
    let l = length-append (kids c) (k ∷ []) in
    let x : 16 - length (kids c) ≡ suc (16 - length (kids c ++ (k ∷ []))) = omega arith in
    let a : c.arr ≡ kids c ++ (no_kid ∷ replicate (16 - length (kids c ++ (k ∷ []))) no_kid) =
    ap (λ (l : NodeChildren). l.arr) e ∙ ap (λ (m : ℕ). kids c ++ replicate m no_kid) x in
    same-list (c.len + 1) (length (kids c ++ (k ∷ []))) (set c.arr c.len k) ((kids c ++ (k ∷ [])) ++ replicate (16 - length (kids c ++ (k ∷ []))) no_kid) (omega arith)
    (ap (λ (l : List Kid). set l c.len k) a ∙ set_at (kids c) no_kid (replicate (16 - length (kids c ++ (k ∷ []))) no_kid) k c.len (sym n)
    ∙ sym (append_snoc (kids c) k (replicate (16 - length (kids c ++ (k ∷ []))) no_kid)))

pub put_holds : (c : NodeChildren) (k : Kid) → c.len < 16 → c ≡ list_of (kids c)
    → Holds (record { len = c.len + 1; arr = set c.arr c.len k }) (c.len + 1) (kids c ++ (k ∷ []))
put_holds c k h e = holds (record { len = c.len + 1; arr = set c.arr c.len k }) (c.len + 1) (kids c ++ (k ∷ [])) refl (put_is c k h e)

-- ── parts ──

module _ {A : Type 0} where
  -- a turn of a loop that appends the entries from s on: behind those up to i comes the one at i
  part-more : (a l : List A) (s i : ℕ) (z : A) → s ≤ i → i < length l → (a ++ drop s (take i l)) ++ (get_or l i z ∷ []) ≡ a ++ drop s (take (i + 1) l)
  part-more a l s i z h k =
      let w : length (take i l) ≡ i = length-take-le i l (omega arith) in
      append_assoc a (drop s (take i l)) (get_or l i z ∷ [])
      ∙ ap (λ (t : List A). a ++ t) (sym (drop-append-le s (take i l) (get_or l i z ∷ []) (omega arith)) ∙ ap (drop s) (sym (rw add-one (take-suc l i z k))))

  part_none : (a l : List A) (s : ℕ) → a ≡ a ++ drop s (take s l)
  part_none a l s = sym (rw (drop_of_length-le (take s l) {i = s} (simp length-take (omega arith))) (append-nil a))

-- appended to a list of known children
pub append-holds : (a : List Kid) (l m : NodeChildren) (n j : ℕ) (t : List Kid) → Holds l j a → Holds m n (kids l ++ t) → Holds m n (a ++ t)
append-holds a l m n j t e f = holds_same m n n (kids l ++ t) (a ++ t) refl (ap (λ (x : List Kid). x ++ t) (is-kids l a e.is)) f

-- where the loop of `append` begins, and such a turn of it
pub append-start : (l c : NodeChildren) (s : ℕ) → l ≡ list_of (kids l) → Holds l (l.len + (s - s)) (kids l ++ drop s (take s (kids c)))
append-start l c s e = holds l (l.len + (s - s)) (kids l ++ drop s (take s (kids c))) (omega arith) (e ∙ ap list_of (part_none (kids l) (kids c) s))

pub append-turn : (a ks : List Kid) (s i j : ℕ) (l m : NodeChildren) (k : Kid) → s ≤ i → i < length ks → k ≡ get_or ks i no_kid
    → Holds l (j + (i - s)) (a ++ drop s (take i ks)) → Holds m (l.len + 1) (kids l ++ (k ∷ [])) → Holds m (j + (i + 1 - s)) (a ++ drop s (take (i + 1) ks))
append-turn a ks s i j l m k h g x e f =
    holds_same m (l.len + 1) (j + (i + 1 - s)) ((a ++ drop s (take i ks)) ++ (k ∷ [])) (a ++ drop s (take (i + 1) ks)) (omega (arith, e.len))
    (ap (λ (y : Kid). (a ++ drop s (take i ks)) ++ (y ∷ [])) x ∙ part-more a ks s i no_kid h g)
    (append-holds (a ++ drop s (take i ks)) l m (l.len + 1) (j + (i - s)) (k ∷ []) e f)

-- all children of a list
pub whole : (c : NodeChildren) → take c.len (kids c) ≡ kids c
whole c = take_all c.len (kids c) (simp length-take (omega arith))

-- appended to the end
pub append-rest : (a : List Kid) (l m c : NodeChildren) (n j s : ℕ) → Holds l j a → Holds m n (kids l ++ drop s (take c.len (kids c))) → Holds m n (a ++ drop s (kids c))
append-rest a l m c n j s e f =
    holds_same m n n (a ++ drop s (take c.len (kids c))) (a ++ drop s (kids c)) refl (ap (λ (x : List Kid). a ++ drop s x) (whole c))
    (append-holds a l m n j (drop s (take c.len (kids c))) e f)

pub insert-holds : (c f p m : NodeChildren) (i j x y : ℕ) (k : Kid) → Holds f x (take i (kids c)) → Holds p y (kids f ++ (k ∷ []))
    → Holds m j (kids p ++ drop i (take c.len (kids c))) → Holds m j (take i (kids c) ++ (k ∷ drop i (kids c)))
insert-holds c f p m i j x y k e g h =
    holds_same m j j ((take i (kids c) ++ (k ∷ [])) ++ drop i (kids c)) (take i (kids c) ++ (k ∷ drop i (kids c))) refl (append_snoc (take i (kids c)) k (drop i (kids c)))
    (append-rest (take i (kids c) ++ (k ∷ [])) p m c j y i (append-holds (take i (kids c)) f p y x (k ∷ []) e g) h)
