-- THEOREM of `put_one` and `put_two`: where the children with what became of one of them are a family that is fine and lies apart, the step is
-- accepted, and what it made of the list is as good as any node, or good but for its size.
use mathlib.Core.Path.{◌≡◌, sym, ap, subst, ◌∙◌}
use mathlib.Core.Bool.{true}
use mathlib.Core.List.{List, [], ◌∷◌, ◌++◌, map}
use Prim.Native.Nat.{ℕ, suc, ◌+◌, ◌≤◌, ◌<◌}
use native.Mathlib.Omega.{arith}
use lib.ListN.{length, take, drop, get_or, length-append, length-drop, take-append-drop}
use lib.Seq.{length-take-le, take_at, drop_at, append_snoc}
use Rattle.plain.specs.Outcome.{Outcome, Outcome.value}
use Rattle.plain.proofs.Logic.{cut}
use Rattle.text_info.specs.declared.TextInfo.{TextInfo}
use Rattle.pool.specs.declared.Kid.{Kid}
use Rattle.pool.specs.Slot.{len_of, no_kid, kid_put}
use Rattle.node_children.specs.Kids.{list_of}
use Rattle.node_children.specs.Calls.{with_kid, left_of}
use Rattle.node_children.proofs.Lists.{kids-of}
use Rattle.nodes.specs.Node.{is_list, children_of}
use Rattle.nodes.proofs.Heads.{list-says}
use Rattle.tree.specs.Tree.{every, hit, seamless}
use Rattle.tree.specs.Kids.{below, fine}
use Rattle.tree.proofs.Lists.{every-head, every-right}
use Rattle.edit_steps.specs.Made.{Made, sized}
use Rattle.edit_steps.specs.Became.{uses_all, bytes_all, free, spare, Slotted}
use Rattle.edit_steps.specs.Grown.{kid}
use Rattle.list_step.specs.Steps.{recount, keeping, parting, adding, one_put, two_put}
use Rattle.list_step.proofs.Rules.{list-len, recount-length, children-few, recounted-is}
use Rattle.list_step.proofs.Stored.{two-by, adding-one, adding-two}
use Rattle.list_step.proofs.Totals.{child-there}
use Rattle.list_step.proofs.Family.{Family, counts_of, narrow-enough, family-told, family-fits, laid-made}
use Rattle.list_step.proofs.Laid.{Laid, made_more}
use Rattle.list_step.proofs.One.{one-is, one-laid}
use Rattle.list_step.proofs.Laws.{Makes, Families, keep-makes, part-makes}

-- children of height g for the list in slot p of a memory of n slots
pub record Ready (m : List ℕ) (n g p : ℕ) (ks : List Kid) : Type 0 where
  pub few : n < 4294967296
  pub slotted : Slotted m n
  pub list : is_list m p ≡ true
  pub there : p < n
  pub each : every (fine m g) ks ≡ true
  pub seams : seamless (map (below m g) ks) ≡ true
  pub once : (x : ℕ) → hit p x + uses_all m g ks x + free m n x ≤ 1
  pub small : length (bytes_all m g ks) < 4294967296

abbrev pub MakesOf : Outcome (Made × List ℕ) → List ℕ → ℕ → ℕ → ℕ → List Kid → Type 0
MakesOf o m n g p ks = Makes o m n (λ x. hit p x + uses_all m g ks x) (suc g) p (bytes_all m g ks)

makes-as : (o q : Outcome (Made × List ℕ)) (m : List ℕ) (n g p : ℕ) (ks : List Kid) → o ≡ q → MakesOf q m n g p ks → MakesOf o m n g p ks
makes-as o q m n g p ks e w = record { made = w.made; later = w.later; accepted = e ∙ w.accepted; is = w.is }

module _ (m : List ℕ) (n g p : ℕ) (ks : List Kid) (r : Ready m n g p ks) where
  one-family : length ks ≤ 16 → Family m n g p ks
  one-family h = record { few = r.few; slotted = r.slotted; there = r.there; most = h; each = r.each; seams = r.seams; once = r.once; small = r.small }

  two-families : (a b : List Kid) → a ++ b ≡ ks → 4 ≤ length a → length a ≤ 16 → 4 ≤ length b → length b ≤ 16 → 1 ≤ spare m n → Families m n g p a b
  two-families a b e h i j k s =
      record {
        few = r.few;
        slotted = r.slotted;
        there = r.there;
        left-most = i;
        right-most = k;
        left-least = h;
        right-least = j;
        each = ap (every (fine m g)) e ∙ r.each;
        seams = ap (λ (l : List Kid). seamless (map (below m g) l)) e ∙ r.seams;
        once = λ x. omega (arith, r.once x, ap (λ (l : List Kid). uses_all m g l x) e);
        small = omega (arith, r.small, ap (λ (l : List Kid). length (bytes_all m g l)) e);
        room = s;
      }

  parted : (a b : List Kid) → a ++ b ≡ ks → Families m n g p a b → MakesOf (parting m p (list_of a) (list_of b)) m n g p ks
  parted a b e f = subst (λ (l : List Kid). MakesOf (parting m p (list_of a) (list_of b)) m n g p l) e (part-makes m n g p a b f)

-- the children where one became two
pub two-family : (ks : List Kid) (i : ℕ) (new k : Kid) → i < length ks → with_kid (i + 1) k (take i ks ++ (new ∷ drop (i + 1) ks)) ≡ take i ks ++ (new ∷ k ∷ drop (i + 1) ks)
two-family ks i new k h =
    let a = take i ks in
    let d = drop (i + 1) ks in
    let b = a ++ (new ∷ []) in
    let n : length b ≡ i + 1 = length-append a (new ∷ []) ∙ omega (arith, length-take-le i ks (omega arith)) in
    let e : b ++ d ≡ a ++ (new ∷ d) = append_snoc a new d in
    ap (λ (l : List Kid). take (i + 1) l ++ (k ∷ drop (i + 1) l)) (sym e)
    ∙ ap (λ (l : List Kid). l ++ (k ∷ drop (i + 1) (b ++ d))) (take_at b d (i + 1) n)
    ∙ ap (λ (l : List Kid). b ++ (k ∷ l)) (drop_at b d (i + 1) n)
    ∙ append_snoc a new (k ∷ d)

module _ (m : List ℕ) (n g p i : ℕ) (new : TextInfo) (at : i < len_of m p) where
  abbrev ks : List Kid
  ks = children_of m p

  abbrev anew : List Kid
  anew = recount i new ks

  so-many : is_list m p ≡ true → length anew ≡ len_of m p
  so-many e = let z = children-few m p e in recount-length ks i (omega arith) new ∙ z

  -- THEOREM: a child with other counts
  pub put-one-makes : Ready m n g p anew → MakesOf (one_put m p i new) m n g p anew
  put-one-makes r =
      let f = one-family m n g p anew r (omega (arith, so-many r.list, (list-says m p r.list).2)) in
      let later = kid_put m p i (kid (get_or ks i no_kid).slot new) in
      let made = sized 4 (length anew) (counts_of anew) in
      let w : Laid m later p anew = one-laid m p i new r.list at (family-fits m n g p anew f) in
      record {
        made = made;
        later = later;
        accepted = one-is m p i new r.list at (narrow-enough m n g p anew f);
        is = made_more m later n 0 1 (λ x. hit p x + uses_all m g anew x) (suc g) p (bytes_all m g anew) made (laid-made m later n g p anew f w (counts_of anew) (family-told m n g p anew f)) (omega arith);
      }

  -- THEOREM: a child that became two
  module _ (right : ℕ) (other : TextInfo) where
    abbrev k : Kid
    k = kid right other

    -- as `put_two` puts them together
    abbrev put : List Kid
    put = with_kid (i + 1) k anew

    pub both-anew : is_list m p ≡ true → put ≡ take i ks ++ (kid (get_or ks i no_kid).slot new ∷ k ∷ drop (i + 1) ks)
    both-anew e = let z = children-few m p e in two-family ks i (kid (get_or ks i no_kid).slot new) k (omega arith)

    module _ (r : Ready m n g p put) (room : 1 ≤ spare m n) where
      named : right ≤ 4294967295
      named =
          let e = every-head (fine m g) k (drop (i + 1) anew) (every-right (fine m g) (take (i + 1) anew) (k ∷ drop (i + 1) anew) r.each) in
          omega (arith, child-there m g k e, r.slotted.long, r.few)

      added : two_put m p i new right other ≡ adding m p (i + 1) k (list_of anew)
      added = two-by m p i new right other (value (list_of anew)) named (recounted-is m p i new r.list at)

      len_is : (list_of anew).len ≡ len_of m p
      len_is = list-len anew ∙ so-many r.list

      put-length : length put ≡ len_of m p + 1
      put-length =
          length-append (take (i + 1) anew) (k ∷ drop (i + 1) anew)
          ∙ omega (arith, so-many r.list, length-take-le (i + 1) anew (omega (arith, so-many r.list)), length-drop (i + 1) anew)

      one_more : len_of m p < 16 → MakesOf (two_put m p i new right other) m n g p put
      one_more h =
          makes-as (two_put m p i new right other) (keeping m p (list_of put)) m n g p put
          (added
          ∙ adding-one m p (i + 1) k (list_of anew) (omega (arith, len_is))
          ∙ ap (λ (l : List Kid). keeping m p (list_of (with_kid (i + 1) k l))) (kids-of anew))
          (keep-makes m n g p put (one-family m n g p put r (omega (arith, put-length))))

      abbrev cutting : ℕ
      cutting = left_of (length put)

      two-lists : 16 ≤ len_of m p → MakesOf (two_put m p i new right other) m n g p put
      two-lists h =
          let s = (list-says m p r.list).2 in
          let x : length put ≡ 17 = omega (arith, put-length) in
          let y : length (take cutting put) ≡ cutting = length-take-le cutting put (omega arith) in
          let z = length-drop cutting put in
          let e = take-append-drop cutting put in
          makes-as (two_put m p i new right other) (parting m p (list_of (take cutting put)) (list_of (drop cutting put))) m n g p put
          (added
          ∙ adding-two m p (i + 1) k (list_of anew) (omega (arith, len_is))
          ∙ ap (λ (l : List Kid). parting m p (list_of (take (left_of (length (with_kid (i + 1) k l))) (with_kid (i + 1) k l))) (list_of (drop (left_of (length (with_kid (i + 1) k l))) (with_kid (i + 1) k l)))) (kids-of anew))
          (parted m n g p put r (take cutting put) (drop cutting put) e
          (two-families m n g p put r (take cutting put) (drop cutting put) e (omega (arith, x, y)) (omega (arith, x, y)) (omega (arith, x, z)) (omega (arith, x, z)) room))

      pub put-two-makes : MakesOf (two_put m p i new right other) m n g p put
      put-two-makes = cut (len_of m p) 16 one_more two-lists

    -- the same of the children as the edit names them
    abbrev pair : List Kid
    pair = take i ks ++ (kid (get_or ks i no_kid).slot new ∷ k ∷ drop (i + 1) ks)

    pub put-pair-makes : Ready m n g p pair → 1 ≤ spare m n → MakesOf (two_put m p i new right other) m n g p pair
    put-pair-makes r room =
        let e = both-anew r.list in
        subst (MakesOf (two_put m p i new right other) m n g p) e (put-two-makes (subst (Ready m n g p) (sym e) r) room)
