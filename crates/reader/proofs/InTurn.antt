-- Parts asked for one behind another: where each is a front part of a text from its place on, joined they are the rest of the text, and there are no
-- more of them than chars. So it is with the runs of `runs::run` and with previews.
use mathlib.Core.Path.{◌≡◌, refl, sym, ap, ◌∙◌}
use mathlib.Core.List.{List, [], ◌∷◌, ◌++◌}
use Prim.Native.Nat.{ℕ, zero, suc, ◌+◌, ◌≤◌, ◌<◌}
use native.Mathlib.Omega.{arith}
use lib.ListN.{length, take, drop, length-drop, drop_of_length-le}
use lib.Seq.{length-take-le}
use Rattle.plain.specs.Chars.{encode}
use Rattle.plain.specs.Count.{count_if}
use Rattle.plain.specs.Place.{is_start}
use Rattle.plain.specs.Utf8.{decode}
use Rattle.plain.specs.Edit.{put_in}
use Rattle.plain.specs.Outcome.{Outcome, Outcome.value, Outcome.refused, part, mapped}
use Rattle.plain.proofs.Logic.{cut}
use Rattle.plain.proofs.Text.{chars-encode}
use Rattle.plain_note.specs.Note.{read_from, previewed}
use Rattle.note_head.specs.Head.{own_of}
use Rattle.memory.specs.Formed.{note_of, of_note}
use Rattle.memory.proofs.Formed.{note-accepted}
use Rattle.leaf_parts.specs.Parts.{from_char}
use Rattle.leaf_parts.specs.Front.{FrontChars}
use Rattle.leaf_parts.proofs.Fronts.{front-filled, front-empty, front_rest}
use Rattle.runs.specs.Runs.{run_of, joined_from, preview_of}
use Rattle.runs.proofs.Says.{read-says, preview-says, preview-also}
use Rattle.runs.proofs.Fronts.{run-front, preview-front}
use Rattle.reader.specs.Handed.{InTurn, joined}

-- with the place last, as it changes from part to part
turns_alike : (f : ℕ → List ℕ) (rs ss : List (List ℕ)) (p : ℕ) → InTurn f p rs → InTurn f p ss → rs ≡ ss
turns_alike f [] [] p a b = refl
turns_alike f [] (s ∷ ss) p a b = absurd (omega (arith, ap length (a ∙ sym b.0), b.1))
turns_alike f (r ∷ rs) [] p a b = absurd (omega (arith, ap length (b ∙ sym a.0), a.1))
turns_alike f (r ∷ rs) (s ∷ ss) p a b =
    let e = turns_alike f rs ss _ a.2 b.2 in
    let h : r ≡ s = a.0 ∙ sym b.0 in cc

-- THEOREM: there is one way only to take them
pub turns-one : (f : ℕ → List ℕ) (p : ℕ) (rs ss : List (List ℕ)) → InTurn f p rs → InTurn f p ss → rs ≡ ss
turns-one f p rs ss a b = turns_alike f rs ss p a b

-- all the parts of a text cs from p on
pub record AllParts (f : ℕ → List ℕ) (cs : List ℕ) (p : ℕ) : Type 0 where
  pub parts : List (List ℕ)
  pub handed : InTurn f p parts
  pub whole : joined parts ≡ encode (drop p cs)
  pub few : p + length parts ≤ length cs

module _ (f : ℕ → List ℕ) (cs : List ℕ) (front : (at : ℕ) → at ≤ length cs → FrontChars cs at (f at)) where
  behind-is : (p : ℕ) (g : FrontChars cs p (f p)) → p + count_if is_start (f p) ≡ p + g.count
  behind-is p g =
      ap (λ (k : ℕ). p + k) (ap (count_if is_start) g.is ∙ chars-encode (take g.count (drop p cs))
      ∙ length-take-le g.count (drop p cs) (omega (arith, g.room, length-drop p cs)))

  at-end : (p : ℕ) → p ≡ length cs → AllParts f cs p
  unfolding encode
  at-end p e =
      record {
        parts = [];
        handed = sym (front-empty cs p (f p) (front p (omega arith)) (omega arith));
        whole = sym (ap encode (drop_of_length-le cs {i = p} (omega arith)));
        few = omega arith;
      }

  one_more : (p : ℕ) → p < length cs → AllParts f cs (p + count_if is_start (f p)) → AllParts f cs p
  one_more p h rest =
      let g = front p (omega arith) in
      let b = behind-is p g in
      record {
        parts = f p ∷ rest.parts;
        handed = (refl, front-filled cs p (f p) g h, rest.handed);
        whole = ap (λ (t : List ℕ). f p ++ t) (rest.whole ∙ ap (λ (k : ℕ). encode (drop k cs)) b) ∙ sym (front_rest cs p (f p) g);
        few = omega (arith, rest.few, b, g.some h);
      }

  parts_in : (n p : ℕ) → p ≤ length cs → length cs ≤ p + n → AllParts f cs p
  parts_in zero p h k = at-end p (omega arith)
  parts_in (suc n) p h k =
      cut p (length cs)
      (λ l. let g = front p h in let b = behind-is p g in one_more p l (parts_in n (p + count_if is_start (f p)) (omega (arith, b, g.room)) (omega (arith, b, g.some l))))
      (λ l. at-end p (omega arith))

  -- THEOREM: the parts from a place on are there, joined they are the rest of the text
  pub all-parts : (p : ℕ) → p ≤ length cs → AllParts f cs p
  all-parts p h = parts_in (length cs) p h (omega arith)

-- ── of a note: what the call comes to, and where it is refused nothing ──

-- the parts that a call gives, joined, are what o is
pub record Taken (f : ℕ → List ℕ) (p : ℕ) (o : Outcome (List ℕ)) : Type 0 where
  pub parts : List (List ℕ)
  pub handed : InTurn f p parts
  pub whole : joined parts ≡ part o

pub taken-joined : (f : ℕ → List ℕ) (p : ℕ) (o : Outcome (List ℕ)) → Taken f p o → (rs : List (List ℕ)) → InTurn f p rs → joined rs ≡ part o
taken-joined f p o k rs t = ap joined (turns-one f p rs k.parts t k.handed) ∙ k.whole

-- THEOREM: the runs of `runs::run`, on any memory and from any place on
pub runs_taken : (m : List ℕ) (p : ℕ) → Taken (run_of m) p (of_note m (λ N. read_from N p))
unfolding run_of
runs_taken m p = go (of_note m (λ N. read_from N p)) refl
  where
    go : (o : Outcome (List ℕ)) → of_note m (λ N. read_from N p) ≡ o → Taken (run_of m) p o
    go (value a) e =
        let s = note-accepted m (λ N. read_from N p) a e in
        let r = read-says (note_of m) p a s.1 in
        let all = all-parts (run_of m) (note_of m).text (run-front m s.0) p r.0 in
        record { parts = all.parts; handed = all.handed; whole = all.whole ∙ sym r.1 }
    go (refused n) e = record { parts = []; handed = sym (ap (λ (o : Outcome (List ℕ)). part (mapped (λ t. from_char (own_of m) p) o)) e); whole = refl }

-- THEOREM: previews of one insertion, on any memory and from any place of the joined text on
pub previews-taken : (m : List ℕ) (p : ℕ) (piece : List ℕ) (q : ℕ) → Taken (preview_of m p piece) q (of_note m (λ N. previewed N p piece q))
unfolding preview_of
previews-taken m p piece q = go (of_note m (λ N. previewed N p piece q)) refl
  where
    go : (o : Outcome (List ℕ)) → of_note m (λ N. previewed N p piece q) ≡ o → Taken (preview_of m p piece) q o
    go (value a) e =
        let s = note-accepted m (λ N. previewed N p piece q) a e in
        let r = preview-says (note_of m) p piece q a s.1 in
        let text = put_in p (decode piece) (note_of m).text in
        let front : (at : ℕ) → at ≤ length text → FrontChars text at (preview_of m p piece at) =
        λ at h. (preview-front m s.0 p piece at (encode (drop at text)) (preview-also (note_of m) p piece q a s.1 at h)).front in
        let all = all-parts (preview_of m p piece) text front q r.there in
        record { parts = all.parts; handed = all.handed; whole = all.whole ∙ sym r.is }
    go (refused n) e = record { parts = []; handed = sym (ap (λ (o : Outcome (List ℕ)). part (mapped (λ t. joined_from (own_of m) p piece q) o)) e); whole = refl }
