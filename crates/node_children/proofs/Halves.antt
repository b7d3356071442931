-- Laws of lists that are split, and of two lists that share their children.
use mathlib.Core.Path.{◌≡◌, sym, ap, ◌∙◌}
use mathlib.Core.List.{List, [], ◌∷◌, ◌++◌, append_assoc, append-nil}
use Prim.Native.Nat.{ℕ, suc, ◌+◌, ◌-◌, ◌/◌, ◌≤◌, ◌<◌}
use native.Mathlib.Omega.{arith}
use lib.ListN.{length, take, drop, get_or, length-append, drop_of_length-le}
use lib.Seq.{length-take-le, take_at, drop_at, take-take, take_all, take-length, take-suc, drop-cons, append_snoc, take-append-le, drop-append-le}
use Rattle.pool.specs.declared.Kid.{Kid}
use Rattle.node_children.specs.declared.NodeChildren.{NodeChildren}
use Rattle.pool.specs.Slot.{no_kid}
use Rattle.node_children.specs.Kids.{kids, list_of, Holds}
use Rattle.node_children.specs.Calls.{with_kid, left_of, halves}
use Rattle.node_children.proofs.Lists.{is-kids, clean-length}

-- ── one child more, and two halves ──

-- the halves of the children with k behind them: l has the front, and r what is left of them, and k
pub halves-put : (c l r : NodeChildren) (k : Kid) → 0 < c.len → length (kids c) ≡ c.len → l ≡ list_of (take (c.len + 1 - (c.len + 1) / 2) (kids c))
    → r ≡ list_of (drop (c.len + 1 - (c.len + 1) / 2) (kids c) ++ (k ∷ [])) → (l ≡ (halves (kids c ++ (k ∷ []))).0) × (r ≡ (halves (kids c ++ (k ∷ []))).1)
halves-put c l r k some w e f =
    let all = kids c ++ (k ∷ []) in
    let m = c.len + 1 - (c.len + 1) / 2 in
    let n : length all ≡ c.len + 1 = length-append (kids c) (k ∷ []) ∙ omega arith in
    let s : m ≡ left_of (length all) = ap left_of (sym n) in
    let h : m ≤ length (kids c) = omega arith in (
      e ∙ ap list_of (sym (take-append-le m (kids c) (k ∷ []) h) ∙ ap (λ (j : ℕ). take j all) s),
      f ∙ ap list_of (sym (drop-append-le m (kids c) (k ∷ []) h) ∙ ap (λ (j : ℕ). drop j all) s),
    )

module _ {A : Type 0} where
  last_out : (l r : List A) (n : ℕ) (z : A) → 0 < n → length l ≡ n → take (n - 1) l ++ (get_or l (n - 1) z ∷ r) ≡ l ++ r
  last_out l r n z p e =
      let f : suc (n - 1) ≡ length l = omega arith in
      sym (append_snoc (take (n - 1) l) (get_or l (n - 1) z) r)
      ∙ ap (λ (t : List A). t ++ r) (sym (take-suc l (n - 1) z (omega arith)) ∙ ap (λ (k : ℕ). take k l) f ∙ take-length l)

  first_out : (l r : List A) (z : A) → 0 < length r → (l ++ (get_or r 0 z ∷ [])) ++ drop 1 r ≡ l ++ r
  first_out l r z p = append_snoc l (get_or r 0 z) (drop 1 r) ∙ ap (λ (t : List A). l ++ t) (sym (drop-cons r 0 z p))

-- put in before the last child, which comes behind
insert-last : (ks : List Kid) (n i : ℕ) (k : Kid) → length ks ≡ n → i < n → with_kid i k (take (n - 1) ks) ++ (get_or ks (n - 1) no_kid ∷ []) ≡ with_kid i k ks
insert-last ks n i k e h =
    let x = get_or ks (n - 1) no_kid in
    let t = take (n - 1) ks in
    let w : length t ≡ n - 1 = length-take-le (n - 1) ks (omega arith) in
    append_assoc (take i t) (k ∷ drop i t) (x ∷ [])
    ∙ ap (λ (l : List Kid). l ++ (k ∷ (drop i t ++ (x ∷ [])))) (take-take i (n - 1) ks (omega arith))
    ∙ ap (λ (l : List Kid). take i ks ++ (k ∷ l))
    (sym (drop-append-le i t (x ∷ []) (omega arith)) ∙ ap (drop i) (last_out ks [] n no_kid (omega arith) e ∙ append-nil ks))

-- the same of lists: f has all children but the last, l those and k, and x is the last
pub insert-extra : (c f l : NodeChildren) (m n i : ℕ) (k x : Kid) → length (kids c) ≡ c.len → i < c.len → Holds f m (take (c.len - 1) (kids c))
    → Holds l n (with_kid i k (kids f)) → x ≡ get_or (kids c) (c.len - 1) no_kid → kids l ++ (x ∷ []) ≡ with_kid i k (kids c)
insert-extra c f l m n i k x w h e g q =
    ap (λ (t : List Kid). t ++ (x ∷ [])) (is-kids l (with_kid i k (kids f)) g.is ∙ ap (with_kid i k) (is-kids f (take (c.len - 1) (kids c)) e.is))
    ∙ ap (λ (y : Kid). with_kid i k (take (c.len - 1) (kids c)) ++ (y ∷ [])) q ∙ insert-last (kids c) c.len i k w h

-- put in behind the last
pub insert-behind : (ks : List Kid) (i : ℕ) (k : Kid) → length ks ≤ i → ks ++ (k ∷ []) ≡ with_kid i k ks
insert-behind ks i k h =
    ap (λ (l : List Kid). l ++ (k ∷ [])) (sym (take_all i ks h)) ∙ ap (λ (l : List Kid). take i ks ++ (k ∷ l)) (sym (drop_of_length-le ks {i = i} h))

-- ── two lists that share their children ──

-- two lists of n children between them, and they are l
pub record Joined (a b : NodeChildren) (n : ℕ) (l : List Kid) : Type 0 where
  pub left-len : a.len ≤ 16
  pub right-len : b.len ≤ 16
  pub left-clean : a ≡ list_of (kids a)
  pub right-clean : b ≡ list_of (kids b)
  pub both : a.len + b.len ≡ n
  pub same : kids a ++ kids b ≡ l

pub joined : (a b : NodeChildren) (x y n : ℕ) (s t l : List Kid) → Holds a x s → Holds b y t → x ≤ 16 → y ≤ 16 → x + y ≡ n → s ++ t ≡ l → Joined a b n l
joined a b x y n s t l g h p q e f =
    record {
      left-len = omega (arith, g.len);
      right-len = omega (arith, h.len);
      left-clean = g.clean;
      right-clean = h.clean;
      both = omega (arith, g.len, h.len);
      same = ap (λ (u : List Kid). u ++ kids b) (is-kids a s g.is) ∙ ap (λ (u : List Kid). s ++ u) (is-kids b t h.is) ∙ f;
    }

module _ (a b a' b' : NodeChildren) (n : ℕ) (l : List Kid) (k : Kid) (j : Joined a b n l) where
  -- the last child of the left list goes to the front of the right one
  pub to-right : 0 < a.len → b.len < 16 → k ≡ get_or (kids a) (a.len - 1) no_kid → Holds a' (a.len - 1) (take (a.len - 1) (kids a))
      → Holds b' (b.len + 1) (with_kid 0 k (kids b)) → Joined a' b' n l
  to-right p q e g h =
      let w = clean-length a j.left-clean in
      joined a' b' (a.len - 1) (b.len + 1) n (take (a.len - 1) (kids a)) (k ∷ kids b) l g h (omega (arith, j.left-len)) (omega arith) (omega (arith, j.both))
      (ap (λ (x : Kid). take (a.len - 1) (kids a) ++ (x ∷ kids b)) e ∙ last_out (kids a) (kids b) a.len no_kid p w ∙ j.same)

  -- the first child of the right list goes to the end of the left one
  pub to-left : 0 < b.len → a.len < 16 → k ≡ get_or (kids b) 0 no_kid → Holds a' (a.len + 1) (kids a ++ (k ∷ [])) → Holds b' (b.len - 1) (drop 1 (kids b)) → Joined a' b' n l
  to-left p q e g h =
      let w = clean-length b j.right-clean in
      joined a' b' (a.len + 1) (b.len - 1) n (kids a ++ (k ∷ [])) (drop 1 (kids b)) l g h (omega arith) (omega (arith, j.right-len)) (omega (arith, j.both))
      (ap (λ (x : Kid). (kids a ++ (x ∷ [])) ++ drop 1 (kids b)) e ∙ first_out (kids a) (kids b) no_kid (omega arith) ∙ j.same)

-- where the right list has half of the children, rounded down, the two lists are the halves
pub shared : (a b : NodeChildren) (n : ℕ) (l : List Kid) → Joined a b n l → b.len ≡ n / 2 → (a ≡ (halves l).0) × (b ≡ (halves l).1)
shared a b n l j e =
    let u = clean-length a j.left-clean in
    let v = clean-length b j.right-clean in
    let w : length l ≡ n = ap length (sym j.same) ∙ length-append (kids a) (kids b) ∙ omega (arith, j.both) in
    let m : left_of n ≡ left_of (length l) = ap left_of (sym w) in
    let s : length (kids a) ≡ left_of n = omega (arith, j.both) in (
      j.left-clean ∙ ap list_of (sym (take_at (kids a) (kids b) (left_of n) s) ∙ ap (take (left_of n)) j.same ∙ ap (λ (i : ℕ). take i l) m),
      j.right-clean ∙ ap list_of (sym (drop_at (kids a) (kids b) (left_of n) s) ∙ ap (drop (left_of n)) j.same ∙ ap (λ (i : ℕ). drop i l) m),
    )
