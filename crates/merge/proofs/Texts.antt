-- What a join does to what lies below two children: the texts of two leaves, and the children of two lists, are the same in their order,
-- in one node or in two. No function of this crate needs it; the tree does.
use mathlib.Core.Path.{◌≡◌, refl, sym, ap, subst, ◌∙◌}
use mathlib.Core.Bool.{Bool, true, false, true≢false, ◌||◌, cond}
use mathlib.Core.List.{List, [], ◌∷◌, ◌++◌}
use Prim.Native.Nat.{ℕ, ◌+◌, ◌-◌, ◌/◌, ◌≤◌}
use native.Mathlib.Omega.{arith}
use lib.Dec.{leb}
use lib.ListN.{length, take, drop, length-append, length-drop, take-append-drop}
use lib.Seq.{length-take-le}
use borrow.Author.Tests.{leb-true, ltb-false, eqb-false}
use Rattle.plain.specs.Outcome.{Outcome, Outcome.value, ruled, past}
use Rattle.plain.proofs.Logic.{neither}
use Rattle.plain.proofs.Outcome.{accepted, all-accepted, rules-passed}
use Rattle.plain.proofs.Utf8.{valid-append}
use Rattle.leaf_bytes.specs.Split.{half_split}
use Rattle.leaf_bytes.proofs.Split.{half_le, half-breaks}
use Rattle.node_text.proofs.Parts.{Parted, cut-parted}
use Rattle.pool.specs.declared.Kid.{Kid}
use Rattle.pool.specs.Slot.{slot_start}
use Rattle.node_children.specs.Kids.{list_of}
use Rattle.node_children.specs.Calls.{left_of}
use Rattle.node_children.proofs.Lists.{kids-of}
use Rattle.nodes.specs.Node.{is_list, text_of, children_of, too_wide, total_of, leaf_put, list_put}
use Rattle.nodes.proofs.Heads.{leaf-says, list-says, list-no-leaf}
use Rattle.nodes.proofs.Put.{leaf-size, leaf-text, leaf-others, list-size, list-children, list-others, same}
use Rattle.nodes.proofs.Fitted.{list-fits}
use Rattle.child_info.specs.Leaves.{TwoLeaves}
use Rattle.merge.specs.Join.{parted, joined_text, shared, joined_kids, joined, AllFit}
use Rattle.merge.proofs.JoinedLists.{few-children}
use Rattle.merge.proofs.Ready.{take-fits, drop-fits}

-- an accepted outcome by its value
given : (v w : Bool × List ℕ) → value v ≡ value w → v ≡ w
given v w e = all-accepted v w (rules-passed v ∙ e)

-- ── two leaves ──

module _ (m : List ℕ) (a b : ℕ) (two : TwoLeaves m a b) where
  abbrev t : List ℕ
  t = text_of m a ++ text_of m b

  in-a : slot_start a + 640 ≤ length m
  in-a = (leaf-says m a two.left.leaf).0

  apart : a ≡ b → ⊥
  apart = eqb-false a b two.apart

  joined-text : joined m a b ≡ joined_text m a b t
  unfolding joined
  joined-text = ap (λ (x : Bool). cond x (joined_text m a b t) (joined_kids m a b (children_of m a ++ children_of m b))) two.left.leaf

  -- THEOREM: merged, the first leaf has both texts
  pub leaves-merged : (l : List ℕ) → joined m a b ≡ value (true, l) → text_of l a ≡ t
  leaves-merged l e = go (leb (length t) 512) refl (sym joined-text ∙ e)
    where
      go : (c : Bool) → leb (length t) 512 ≡ c → cond c (value (true, leaf_put m a t)) (parted m a b t (half_split t)) ≡ value (true, l) → text_of l a ≡ t
      go true z e =
          let mem : leaf_put m a t ≡ l = ap (λ (y : Bool × List ℕ). y.1) (given (true, leaf_put m a t) (true, l) e) in
          ap (λ (y : List ℕ). text_of y a) (sym mem) ∙ leaf-text m a t in-a (leb-true (length t) 512 z)
      go false z e =
          let v = leaf_put (leaf_put m a (take (half_split t) t)) b (drop (half_split t) t) in
          let x = accepted 11 (past (half_split t) 512 || past (length t - half_split t) 512) [] (false, v) (true, l) e in
          absurd (true≢false (sym (ap (λ (y : Bool × List ℕ). y.0) (all-accepted (false, v) (true, l) x.1))))

  -- THEOREM: distributed, the two leaves have the text in two parts, no CR is parted from its LF, and every count adds up
  pub leaves-shared : (l : List ℕ) → joined m a b ≡ value (false, l) → Parted t (text_of l a) (text_of l b)
  leaves-shared l e = go (leb (length t) 512) refl (sym joined-text ∙ e)
    where
      go : (c : Bool) → leb (length t) 512 ≡ c → cond c (value (true, leaf_put m a t)) (parted m a b t (half_split t)) ≡ value (false, l) → Parted t (text_of l a) (text_of l b)
      go true z e = absurd (true≢false (ap (λ (y : Bool × List ℕ). y.0) (given (true, leaf_put m a t) (false, l) e)))
      go false z e =
          let p = half_split t in
          let one = leaf_put m a (take p t) in
          let v = leaf_put one b (drop p t) in
          let x = accepted 11 (past p 512 || past (length t - p) 512) [] (false, v) (false, l) e in
          let n = neither (past p 512) (past (length t - p) 512) x.0 in
          let mem : v ≡ l = ap (λ (y : Bool × List ℕ). y.1) (all-accepted (false, v) (false, l) x.1) in
          let le = half_le t in
          let lx : length (take p t) ≤ 512 = omega (arith, length-take-le p t le, ltb-false 512 p n.0) in
          let ly : length (drop p t) ≤ 512 = omega (arith, length-drop p t, ltb-false 512 (length t - p) n.1) in
          let size = leaf-size m a (take p t) in-a lx in
          let there : slot_start b + 640 ≤ length one = omega (arith, size, (leaf-says m b two.right.leaf).0) in
          let left : text_of l a ≡ take p t =
          ap (λ (y : List ℕ). text_of y a) (sym mem)
          ∙ (same v one a (leaf-others one b (drop p t) there ly a apart) (leaf-size one b (drop p t) there ly)).text
          ∙ leaf-text m a (take p t) in-a lx in
          let right : text_of l b ≡ drop p t = ap (λ (y : List ℕ). text_of y b) (sym mem) ∙ leaf-text one b (drop p t) there ly in
          let valid = (valid-append (text_of m a) (text_of m b) two.left.text two.right.text).0 in
          subst (λ (y : List ℕ). Parted t y (text_of l b)) (sym left) (subst (λ (y : List ℕ). Parted t (take p t) y) (sym right) (cut-parted t p valid le (half-breaks t valid)))

-- ── two lists ──

module _ (m : List ℕ) (a b : ℕ) (e : is_list m a ≡ true) (f : is_list m b ≡ true) (d : a ≡ b → ⊥) (fit : AllFit (children_of m a ++ children_of m b)) where
  abbrev ks : List Kid
  ks = children_of m a ++ children_of m b

  at_a : slot_start a + 640 ≤ length m
  at_a = (list-says m a e).0

  joined-kids : joined m a b ≡ joined_kids m a b ks
  unfolding joined
  joined-kids = ap (λ (x : Bool). cond x (joined_text m a b (text_of m a ++ text_of m b)) (joined_kids m a b ks)) (list-no-leaf m a e)

  abbrev both : Outcome (Bool × List ℕ)
  both = shared m a b (take (left_of (length ks)) ks) (drop (left_of (length ks)) ks)

  -- THEOREM: merged, the first list has all children
  pub lists-merged : (l : List ℕ) → joined m a b ≡ value (true, l) → children_of l a ≡ ks
  unfolding list_of
  lists-merged l h = go (leb (length ks) 16) refl (sym joined-kids ∙ h)
    where
      go : (x : Bool) → leb (length ks) 16 ≡ x → cond x (ruled ((2, too_wide (total_of ks)) ∷ []) (true, list_put m a (list_of ks))) both ≡ value (true, l) → children_of l a ≡ ks
      go true z h =
          let v = list_put m a (list_of ks) in
          let x = accepted 2 (too_wide (total_of ks)) [] (true, v) (true, l) h in
          let mem : v ≡ l = ap (λ (y : Bool × List ℕ). y.1) (all-accepted (true, v) (true, l) x.1) in
          let n = leb-true (length ks) 16 z in
          let g = list-fits ks n fit in
          ap (λ (y : List ℕ). children_of y a) (sym mem) ∙ list-children m a (list_of ks) at_a n g.sixteen g ∙ kids-of ks
      go false z h =
          let p = left_of (length ks) in
          let v = list_put (list_put m a (list_of (take p ks))) b (list_of (drop p ks)) in
          let x = accepted 2 (too_wide (total_of (take p ks)) || too_wide (total_of (drop p ks))) [] (false, v) (true, l) h in
          absurd (true≢false (sym (ap (λ (y : Bool × List ℕ). y.0) (all-accepted (false, v) (true, l) x.1))))

  -- THEOREM: distributed, the two lists have all children in their order, and the second has half of them, rounded down
  pub lists-shared : (l : List ℕ) → joined m a b ≡ value (false, l) → (children_of l a ++ children_of l b ≡ ks) × (length (children_of l b) ≡ length ks / 2)
  unfolding list_of
  lists-shared l h = go (leb (length ks) 16) refl (sym joined-kids ∙ h)
    where
      go : (x : Bool) → leb (length ks) 16 ≡ x → cond x (ruled ((2, too_wide (total_of ks)) ∷ []) (true, list_put m a (list_of ks))) both ≡ value (false, l)
          → (children_of l a ++ children_of l b ≡ ks) × (length (children_of l b) ≡ length ks / 2)
      go true z h =
          let v = list_put m a (list_of ks) in
          let x = accepted 2 (too_wide (total_of ks)) [] (true, v) (false, l) h in
          absurd (true≢false (ap (λ (y : Bool × List ℕ). y.0) (all-accepted (true, v) (false, l) x.1)))
      go false z h =
          let p = left_of (length ks) in
          let ls = take p ks in
          let rs = drop p ks in
          let one = list_put m a (list_of ls) in
          let v = list_put one b (list_of rs) in
          let x = accepted 2 (too_wide (total_of ls) || too_wide (total_of rs)) [] (false, v) (false, l) h in
          let mem : v ≡ l = ap (λ (y : Bool × List ℕ). y.1) (all-accepted (false, v) (false, l) x.1) in
          let total : length ks ≤ 32 = omega (arith, length-append (children_of m a) (children_of m b), few-children m a e, few-children m b f) in
          let nl : length ls ≤ 16 = omega (arith, length-take-le p ks (omega arith)) in
          let nr : length rs ≤ 16 = omega (arith, length-drop p ks) in
          let gl = list-fits ls nl (take-fits p ks fit) in
          let gr = list-fits rs nr (drop-fits p ks fit) in
          let size = list-size m a (list_of ls) at_a nl gl.sixteen in
          let there : slot_start b + 640 ≤ length one = omega (arith, size, (list-says m b f).0) in
          let left : children_of l a ≡ ls =
          ap (λ (y : List ℕ). children_of y a) (sym mem)
          ∙ (same v one a (list-others one b (list_of rs) there nr gr.sixteen a d) (list-size one b (list_of rs) there nr gr.sixteen)).children
          ∙ list-children m a (list_of ls) at_a nl gl.sixteen gl
          ∙ kids-of ls in
          let right : children_of l b ≡ rs = ap (λ (y : List ℕ). children_of y b) (sym mem) ∙ list-children one b (list_of rs) there nr gr.sixteen gr ∙ kids-of rs in (
            ap (λ (y : List Kid). y ++ children_of l b) left ∙ ap (λ (y : List Kid). ls ++ y) right ∙ take-append-drop p ks,
            ap length right ∙ length-drop p ks ∙ omega arith,
          )
