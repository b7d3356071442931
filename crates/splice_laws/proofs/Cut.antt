-- Chars before a place of the note taken out, as many as the leaf has that holds the last of them: at least one.
use mathlib.Core.Path.{◌≡◌, refl, sym, ap, ◌∙◌}
use mathlib.Core.Logic.{inl}
use mathlib.Core.Bool.{Bool, cond, ◌&&◌}
use mathlib.Core.List.{List, [], ◌++◌}
use Prim.Native.Nat.{ℕ, ◌+◌, ◌-◌, ◌≤◌}
use native.Mathlib.Omega.{arith}
use lib.ListN.{length, take, drop}
use borrow.Author.Tests.{lt-ltb, le-ltb}
use Rattle.plain.specs.Chars.{encode}
use Rattle.plain.specs.Utf8.{decode}
use Rattle.plain.specs.Count.{cr_last, lf_first}
use Rattle.plain.specs.Edit.{replaced, cut_out}
use Rattle.plain.specs.Outcome.{Outcome, Outcome.value}
use Rattle.plain.proofs.Logic.{cut}
use Rattle.text_info.specs.declared.TextSum.{TextSum}
use Rattle.child_search.specs.declared.Measure.TheVariants.{CharEnds}
use Rattle.nodes.specs.Node.{text_of}
use Rattle.tree.specs.Tree.{least_root}
use Rattle.tree.proofs.Counts.{valid-nil}
use Rattle.tree_search.proofs.Parted.{Ends, ends}
use Rattle.tree_search.proofs.Seams.{Whole}
use Rattle.note_head.specs.Head.{root_of, height_of}
use Rattle.memory.specs.Formed.{note_bytes}
use Rattle.leaf_parts.specs.Parts.{byte_in}
use Rattle.leaf_parts.proofs.Found.{text-is}
use Rattle.edit_steps.specs.Acts.{Act, reading, onward}
use Rattle.edit_steps.specs.Held.{Held, Kept}
use Rattle.descent.specs.declared.Part.TheVariants.{Bytes}
use Rattle.splices.specs.Splices.{spliced, lesser, taken_out, cut_at}
use Rattle.splice_laws.proofs.Spliced.{splice-held}
use Rattle.splice_laws.proofs.Texts.{none-decoded, byte-boundary, byte-order, front_bytes, rest-bytes, chars-edited, size-edited}
use Rattle.splice_laws.proofs.Seams.{whole-encode, Seams, cut-between}
use Rattle.splice_laws.proofs.Places.{Inside, first-or-more, by-ends}

pub record CutHeld (m : List ℕ) (n : ℕ) (t : List ℕ) (at k : ℕ) : Type 0 where
  pub count : ℕ
  pub some : 1 ≤ count
  pub most : count ≤ k
  pub later : List ℕ
  pub new : List ℕ
  pub is : cut_at m at k ≡ (value count, later)
  pub held : Held later n new
  pub chars : decode new ≡ cut_out (at - count) at (decode t)
  pub size : length new ≤ length t
  pub kept : Kept m later

module _ (m : List ℕ) (n : ℕ) (t : List ℕ) (note : Held m n t) (at k : ℕ) (positive : 1 ≤ k) (before-it : k ≤ at)
    (whole : (c : ℕ) → 1 ≤ c → c ≤ k → Whole (take (at - c) (decode t)) (drop at (decode t))) where
  module _ (r : Ends m (height_of m) (root_of m).slot CharEnds at) (in_leaf : Inside r.before (text_of m r.leaf) at (at - r.left.chars)) where
    abbrev leaf : List ℕ
    leaf = text_of m r.leaf

    abbrev q : ℕ
    q = at - r.left.chars

    parts : t ≡ r.before ++ (leaf ++ r.after)
    parts = sym note.bytes ∙ r.parted.whole

    old : Seams r.before leaf r.after
    old = record { front = r.parted.seam-before; back = r.parted.seam-after }

    cut-is : cut_at m at k ≡ onward (spliced m CharEnds at (Bytes (byte_in leaf (q - lesser k q)) (byte_in leaf q)) []) (λ u l. (value (lesser k q), l))
    unfolding cut_at
    cut-is =
        ap (λ (o : Outcome (ℕ × TextSum)). reading m o (taken_out m at k)) r.is
        ∙ ap (λ (l : List ℕ). onward (spliced m CharEnds at (Bytes (byte_in l (q - lesser k q)) (byte_in l q)) []) (λ u l. (value (lesser k q), l))) (text-is m r.leaf r.parted.is_leaf)

    -- c chars of the leaf
    module _ (c : ℕ) (few : c ≤ q) where
      abbrev i : ℕ
      i = byte_in leaf (q - c)

      abbrev j : ℕ
      j = byte_in leaf q

      start : length (decode r.before) + (q - c) ≡ at - c
      start = omega (arith, in_leaf.is)

      counted : c ≡ lesser k q → (later : List ℕ) → spliced m CharEnds at (Bytes i j) [] ≡ (value tt, later) → cut_at m at k ≡ (value c, later)
      counted least later e =
          cut-is
          ∙ ap (λ (x : ℕ). onward (spliced m CharEnds at (Bytes (byte_in leaf (q - x)) j) []) (λ u l. (value x, l))) (sym least)
          ∙ ap (λ (a : Act (Unit {0})). onward a (λ u l. (value c, l))) e

      -- what meets where they were
      meets : Whole (take (at - c) (decode t)) (drop at (decode t)) → Whole (r.before ++ take i leaf) (drop j leaf ++ r.after)
      meets h =
          let front : r.before ++ take i leaf ≡ encode (take (at - c) (decode t))
          = front_bytes r.before leaf r.after r.parted.valid-before r.parted.valid-leaf r.parted.valid-after (q - c) (omega (arith, in_leaf.within))
          ∙ ap (λ (x : ℕ). encode (take x (decode (r.before ++ (leaf ++ r.after))))) start
          ∙ ap (λ (l : List ℕ). encode (take (at - c) (decode l))) (sym parts) in
          let rest : drop j leaf ++ r.after ≡ encode (drop at (decode t))
          = rest-bytes r.before leaf r.after r.parted.valid-before r.parted.valid-leaf r.parted.valid-after q in_leaf.within
          ∙ ap (λ (x : ℕ). encode (drop x (decode (r.before ++ (leaf ++ r.after))))) in_leaf.is
          ∙ ap (λ (l : List ℕ). encode (drop at (decode l))) (sym parts) in
          ap (λ (l : List ℕ). cr_last l && lf_first (drop j leaf ++ r.after)) front
          ∙ ap (λ (l : List ℕ). cr_last (encode (take (at - c) (decode t))) && lf_first l) rest
          ∙ whole-encode (take (at - c) (decode t)) (drop at (decode t)) h

      cut-there : 1 ≤ c → c ≤ k → c ≡ lesser k q → CutHeld m n t at k
      cut-there some most least =
          let s = cut-between r.before leaf r.after old i j (meets (whole c some most)) in
          let within : q - c ≤ length (decode leaf) = omega (arith, in_leaf.within) in
          let order = byte-order leaf r.parted.valid-leaf (q - c) q (omega arith) in
          let bytes : length (r.before ++ (cut_out i j leaf ++ r.after)) ≤ length t
          = omega (
            arith,
            size-edited r.before leaf r.after r.parted.valid-before r.parted.valid-leaf r.parted.valid-after [] valid-nil (q - c) q (omega arith) in_leaf.within,
            ap length parts,
            order,
          ) in
          let o = splice-held m n t note CharEnds at r i j [] order (byte-boundary leaf r.parted.valid-leaf (q - c) within)
          (byte-boundary leaf r.parted.valid-leaf q in_leaf.within) valid-nil (omega arith) (inl refl) s.front s.back (omega (arith, note.size)) in
          record {
            count = c;
            some = some;
            most = most;
            later = o.later;
            new = r.before ++ (cut_out i j leaf ++ r.after);
            is = counted least o.later o.is;
            held = o.held;
            chars =
                chars-edited r.before leaf r.after r.parted.valid-before r.parted.valid-leaf r.parted.valid-after [] valid-nil (q - c) q (omega arith) in_leaf.within
                ∙ ap (λ (l : List ℕ). replaced (length (decode r.before) + (q - c)) (length (decode r.before) + q) l (decode (r.before ++ (leaf ++ r.after)))) none-decoded
                ∙ ap (λ (x : ℕ). cut_out x (length (decode r.before) + q) (decode (r.before ++ (leaf ++ r.after)))) start
                ∙ ap (λ (x : ℕ). cut_out (at - c) x (decode (r.before ++ (leaf ++ r.after)))) in_leaf.is
                ∙ ap (λ (l : List ℕ). cut_out (at - c) at (decode l)) (sym parts);
            size = bytes;
            kept = o.kept;
          }

  -- THEOREM: chars taken out, where whatever then meets is whole
  pub cut-held : at ≤ length (decode t) → CutHeld m n t at k
  cut-held h =
      let room : at ≤ length (decode (note_bytes m)) = omega (arith, ap (λ (l : List ℕ). length (decode l)) note.bytes) in
      let r = ends m CharEnds (height_of m) (root_of m).slot at (least_root (height_of m)) (omega arith) note.good room in
      let i = by-ends m (height_of m) (root_of m).slot at r.leaf r.left r.before r.after r.parted room in
      let q : ℕ = at - r.left.chars in
      let some : 1 ≤ q = first-or-more r.before (text_of m r.leaf) at q i.0 (omega arith) i.1 in
      cut k q
      (λ l. cut-there r i.0 k (omega arith) positive (omega arith) (sym (ap (λ (b : Bool). cond b k q) (lt-ltb k q l))))
      (λ l. cut-there r i.0 q (omega arith) some l (sym (ap (λ (b : Bool). cond b k q) (le-ltb k q l))))
