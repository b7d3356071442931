-- Two nodes joined: both can be counted afterwards, and no other slot changed.
use mathlib.Core.Path.{◌≡◌, refl, sym, ap, subst, ◌∙◌}
use mathlib.Core.Bool.{Bool, true, false, ◌||◌, cond}
use mathlib.Core.List.{List, [], ◌∷◌, ◌++◌}
use Prim.Native.Nat.{ℕ, ◌+◌, ◌-◌, ◌≤◌}
use native.Mathlib.Omega.{arith}
use lib.Dec.{leb}
use lib.ListN.{length, take, drop, length-append, length-take, length-drop}
use lib.Seq.{length-take-le, get_or-take, get_or-drop}
use borrow.Author.Tests.{leb-true, ltb-false, eqb-false}
use Rattle.plain.specs.Utf8.{valid_utf8}
use Rattle.plain.specs.Outcome.{Outcome.value, ruled, past}
use Rattle.plain.proofs.Logic.{neither}
use Rattle.plain.proofs.Outcome.{accepted, all-accepted, rules-passed}
use Rattle.plain.proofs.Utf8.{valid-append}
use Rattle.leaf_bytes.specs.Split.{half_split}
use Rattle.leaf_bytes.proofs.Split.{half_le, half-breaks}
use Rattle.node_text.proofs.Parts.{cut-parted}
use Rattle.pool.specs.declared.Kid.{Kid}
use Rattle.pool.specs.Slot.{slot_start, slot_of, no_kid, Fits}
use Rattle.node_children.specs.Kids.{list_of}
use Rattle.node_children.specs.Calls.{left_of}
use Rattle.node_children.proofs.Lists.{kids-of}
use Rattle.nodes.specs.Node.{is_list, text_of, children_of, counts_of, too_wide, total_of, lost, ill, leaf_put, list_put}
use Rattle.nodes.specs.Calls.{counted}
use Rattle.nodes.proofs.Heads.{leaf-says, list-says, list-no-leaf}
use Rattle.nodes.proofs.Put.{leaf-size, leaf-put, leaf-text, leaf-others, list-size, list_put_lem, list-children, list-others}
use Rattle.nodes.proofs.Fitted.{list-fits}
use Rattle.nodes.proofs.Accepted.{counted_is}
use Rattle.child_info.specs.Leaves.{TwoLeaves, Alike, Alike.leaves, Alike.lists}
use Rattle.child_info.proofs.Found.{text-counted}
use Rattle.merge.specs.Join.{parted, joined_text, shared, joined_kids, joined, AllFit}
use Rattle.merge.proofs.Settled.{counted_same}
use Rattle.merge.proofs.JoinedLists.{few-children}

-- what a join leaves: the two nodes counted, and every other slot as it was
pub record After (m : List ℕ) (a b : ℕ) (l : List ℕ) : Type 0 where
  pub size : length l ≡ length m
  pub left : counted l a ≡ value (counts_of l a)
  pub right : counted l b ≡ value (counts_of l b)
  pub others : (u : ℕ) → (u ≡ a → ⊥) → (u ≡ b → ⊥) → slot_of l u ≡ slot_of m u

-- ── a node that was written can be counted ──

leaf-counted : (m : List ℕ) (s : ℕ) (t : List ℕ) → slot_start s + 640 ≤ length m → length t ≤ 512 → valid_utf8 t ≡ true → counted (leaf_put m s t) s ≡ value (counts_of (leaf_put m s t) s)
leaf-counted m s t h k v = text-counted (leaf_put m s t) s (record { leaf = leaf-put m s t h k; text = ap valid_utf8 (leaf-text m s t h k) ∙ v })

list_counted : (m : List ℕ) (s : ℕ) (ks : List Kid) → slot_start s + 640 ≤ length m → length ks ≤ 16 → AllFit ks → too_wide (total_of ks) ≡ false
    → counted (list_put m s (list_of ks)) s ≡ value (counts_of (list_put m s (list_of ks)) s)
unfolding lost ill list_of
list_counted m s ks h n f w =
    let fit = list-fits ks n f in
    let l = list_put m s (list_of ks) in
    let is = list_put_lem m s (list_of ks) h n fit.sixteen in
    let no = list-no-leaf l s is in
    let cs : children_of l s ≡ ks = list-children m s (list_of ks) h n fit.sixteen fit ∙ kids-of ks in
    counted_is l s (rw (is, no, cs, w)) (rw no)

-- ── parts of a list of children whose numbers have 32 bits ──

pub take-fits : (p : ℕ) (ks : List Kid) → AllFit ks → AllFit (take p ks)
take-fits p ks f i h = subst Fits (sym (get_or-take p ks i no_kid (omega (arith, length-take p ks)))) (f i (omega (arith, length-take p ks)))

pub drop-fits : (p : ℕ) (ks : List Kid) → AllFit ks → AllFit (drop p ks)
drop-fits p ks f i h = subst Fits (sym (get_or-drop p ks i no_kid)) (f (p + i) (omega (arith, length-drop p ks)))

-- ── one write, and two ──

module _ (m : List ℕ) (a b : ℕ) (d : a ≡ b → ⊥) where
  one-write : (l : List ℕ) → length l ≡ length m → ((u : ℕ) → (u ≡ a → ⊥) → slot_of l u ≡ slot_of m u) → counted l a ≡ value (counts_of l a) → counted m b ≡ value (counts_of m b) → After m a b l
  one-write l n o x y = record {
    size = n;
    left = x;
    right = counted_same l m b (o b (λ z. d (sym z))) n y;
    others = λ u f g. o u f;
  }

  two-writes : (l k : List ℕ) → length l ≡ length m → ((u : ℕ) → (u ≡ a → ⊥) → slot_of l u ≡ slot_of m u) → counted l a ≡ value (counts_of l a)
      → length k ≡ length l → ((u : ℕ) → (u ≡ b → ⊥) → slot_of k u ≡ slot_of l u) → counted k b ≡ value (counts_of k b) → After m a b k
  two-writes l k n o x p q y = record {
    size = p ∙ n;
    left = counted_same k l a (q a d) p x;
    right = y;
    others = λ u f g. q u g ∙ o u f;
  }

-- ── two leaves ──

module _ (m : List ℕ) (a b : ℕ) (two : TwoLeaves m a b) where
  abbrev t : List ℕ
  t = text_of m a ++ text_of m b

  apart : a ≡ b → ⊥
  apart = eqb-false a b two.apart

  valid : valid_utf8 t ≡ true
  valid = (valid-append (text_of m a) (text_of m b) two.left.text two.right.text).0

  in-a : slot_start a + 640 ≤ length m
  in-a = (leaf-says m a two.left.leaf).0

  in_b : slot_start b + 640 ≤ length m
  in_b = (leaf-says m b two.right.leaf).0

  leaves_after : (q : Bool) (l : List ℕ) → joined_text m a b t ≡ value (q, l) → After m a b l
  leaves_after q l e = go (leb (length t) 512) refl e
    where
      go : (c : Bool) → leb (length t) 512 ≡ c → cond c (value (true, leaf_put m a t)) (parted m a b t (half_split t)) ≡ value (q, l) → After m a b l
      go true z e =
          let small = leb-true (length t) 512 z in
          let mem : leaf_put m a t ≡ l = ap (λ (y : Bool × List ℕ). y.1) (all-accepted (true, leaf_put m a t) (q, l) (rules-passed (true, leaf_put m a t) ∙ e)) in
          subst (λ (x : List ℕ). After m a b x) mem
          (one-write m a b apart (leaf_put m a t) (leaf-size m a t in-a small) (leaf-others m a t in-a small) (leaf-counted m a t in-a small valid) (text-counted m b two.right))
      go false z e =
          let p = half_split t in
          let x = accepted 11 (past p 512 || past (length t - p) 512) [] (false, leaf_put (leaf_put m a (take p t)) b (drop p t)) (q, l) e in
          let n = neither (past p 512) (past (length t - p) 512) x.0 in
          let same = all-accepted (false, leaf_put (leaf_put m a (take p t)) b (drop p t)) (q, l) x.1 in
          let mem : leaf_put (leaf_put m a (take p t)) b (drop p t) ≡ l = ap (λ (y : Bool × List ℕ). y.1) same in
          let le = half_le t in
          let lx : length (take p t) ≤ 512 = omega (arith, length-take-le p t le, ltb-false 512 p n.0) in
          let ly : length (drop p t) ≤ 512 = omega (arith, length-drop p t, ltb-false 512 (length t - p) n.1) in
          let cp = (cut-parted t p valid le (half-breaks t valid)).joined in
          let one = leaf_put m a (take p t) in
          let size = leaf-size m a (take p t) in-a lx in
          let there : slot_start b + 640 ≤ length one = omega (arith, size, in_b) in
          subst (λ (y : List ℕ). After m a b y) mem
          (two-writes m a b apart one (leaf_put one b (drop p t)) size (leaf-others m a (take p t) in-a lx) (leaf-counted m a (take p t) in-a lx cp.left-valid)
          (leaf-size one b (drop p t) there ly) (leaf-others one b (drop p t) there ly) (leaf-counted one b (drop p t) there ly cp.right_valid))

-- ── two lists ──

module _ (m : List ℕ) (a b : ℕ) (e : is_list m a ≡ true) (f : is_list m b ≡ true) (d : a ≡ b → ⊥) (c : counted m b ≡ value (counts_of m b)) (fit : AllFit (children_of m a ++ children_of m b)) where
  abbrev ks : List Kid
  ks = children_of m a ++ children_of m b

  at_a : slot_start a + 640 ≤ length m
  at_a = (list-says m a e).0

  at_b : slot_start b + 640 ≤ length m
  at_b = (list-says m b f).0

  lists-after : (q : Bool) (l : List ℕ) → joined_kids m a b ks ≡ value (q, l) → After m a b l
  unfolding list_of
  lists-after q l h = go (leb (length ks) 16) refl h
    where
      go : (x : Bool) → leb (length ks) 16 ≡ x
          → cond x (ruled ((2, too_wide (total_of ks)) ∷ []) (true, list_put m a (list_of ks))) (shared m a b (take (left_of (length ks)) ks) (drop (left_of (length ks)) ks)) ≡ value (q, l) → After m a b l
      go true z h =
          let x = accepted 2 (too_wide (total_of ks)) [] (true, list_put m a (list_of ks)) (q, l) h in
          let same = all-accepted (true, list_put m a (list_of ks)) (q, l) x.1 in
          let mem : list_put m a (list_of ks) ≡ l = ap (λ (y : Bool × List ℕ). y.1) same in
          let n = leb-true (length ks) 16 z in
          let g = list-fits ks n fit in
          subst (λ (y : List ℕ). After m a b y) mem
          (one-write m a b d (list_put m a (list_of ks)) (list-size m a (list_of ks) at_a n g.sixteen) (list-others m a (list_of ks) at_a n g.sixteen) (list_counted m a ks at_a n fit x.0) c)
      go false z h =
          let p = left_of (length ks) in
          let ls = take p ks in
          let rs = drop p ks in
          let x = accepted 2 (too_wide (total_of ls) || too_wide (total_of rs)) [] (false, list_put (list_put m a (list_of ls)) b (list_of rs)) (q, l) h in
          let w = neither (too_wide (total_of ls)) (too_wide (total_of rs)) x.0 in
          let same = all-accepted (false, list_put (list_put m a (list_of ls)) b (list_of rs)) (q, l) x.1 in
          let mem : list_put (list_put m a (list_of ls)) b (list_of rs) ≡ l = ap (λ (y : Bool × List ℕ). y.1) same in
          let total : length ks ≤ 32 = omega (arith, length-append (children_of m a) (children_of m b), few-children m a e, few-children m b f) in
          let nl : length ls ≤ 16 = omega (arith, length-take-le p ks (omega arith)) in
          let nr : length rs ≤ 16 = omega (arith, length-drop p ks) in
          let fl : AllFit ls = take-fits p ks fit in
          let fr : AllFit rs = drop-fits p ks fit in
          let gl = list-fits ls nl fl in
          let gr = list-fits rs nr fr in
          let one = list_put m a (list_of ls) in
          let size = list-size m a (list_of ls) at_a nl gl.sixteen in
          let there : slot_start b + 640 ≤ length one = omega (arith, size, at_b) in
          subst (λ (y : List ℕ). After m a b y) mem
          (two-writes m a b d one (list_put one b (list_of rs)) size (list-others m a (list_of ls) at_a nl gl.sixteen) (list_counted m a ls at_a nl fl w.0)
          (list-size one b (list_of rs) there nr gr.sixteen) (list-others one b (list_of rs) there nr gr.sixteen) (list_counted one b rs there nr fr w.1))

-- THEOREM: two nodes of one kind that were joined can be counted, and no other slot changed
pub joined-after : (m : List ℕ) (a b : ℕ) → Alike m a b → counted m b ≡ value (counts_of m b) → (is_list m a ≡ true → AllFit (children_of m a ++ children_of m b))
    → (q : Bool) (l : List ℕ) → joined m a b ≡ value (q, l) → After m a b l
unfolding joined
joined-after m a b (leaves two) c f q l e =
    leaves_after m a b two q l (sym (ap (λ (x : Bool). cond x (joined_text m a b (text_of m a ++ text_of m b)) (joined_kids m a b (children_of m a ++ children_of m b))) two.left.leaf) ∙ e)
joined-after m a b (lists x y d) c f q l e =
    lists-after m a b x y (eqb-false a b d) c (f x) q l
    (sym (ap (λ (z : Bool). cond z (joined_text m a b (text_of m a ++ text_of m b)) (joined_kids m a b (children_of m a ++ children_of m b))) (list-no-leaf m a x)) ∙ e)
