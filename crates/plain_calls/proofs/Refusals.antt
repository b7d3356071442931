-- By which number a call is refused: the rules of each call, that they decide, that their numbers rise, and that so the lowest that applies is given.
use mathlib.Core.Path.{◌≡◌, refl, sym, ap, ◌∙◌}
use mathlib.Core.Bool.{Bool, true, false, ◌||◌, true≢false}
use mathlib.Core.List.{List, [], ◌∷◌, ◌++◌}
use Prim.Native.Nat.{ℕ, ◌≤◌}
use native.Mathlib.Omega.{arith}
use lib.Dec.{leb}
use lib.ListN.{length}
use Rattle.plain.specs.Utf8.{decode}
use Rattle.plain.specs.Place as Place
use Rattle.plain.specs.Count.{line_at}
use Rattle.plain.specs.Edit.{put_in}
use Rattle.plain.specs.Outcome.{Outcome, Outcome.value, Outcome.refused, Rule, ruled, past, mapped}
use Rattle.plain.proofs.Outcome.{more-refused, more-passed, passed}
use Rattle.plain_note.specs.Note.{Note, most_by, between, converted, copied, read_from, previewed, insert_rules, piece_most}
use Rattle.plain_note.specs.Edits.{remove_rules, inserted, removed}
use Rattle.plain_calls.specs.Marks.{is_free, mark_of, lowest, standing, line_beside}
use Rattle.plain_calls.specs.Calls.{Look, Look.total, Look.slots, Look.edits, Look.convert, Look.copy, Look.read, Look.preview, Look.place, Look.line, Call, Call.insert, Call.remove, Call.set_mark, Call.drop_mark, Call.look, Said, Said.done, Said.is, Said.by, Said.bytes, inserting, removing, setting, dropping, looking, said, called}
use Rattle.plain_calls.proofs.Rules.{mapped-ruled, applies-refused, Rising, Applies, refused-applies, refused-lowest}

abbrev pub look_rules : Note → Look → List Rule
look_rules N (total m) = []
look_rules N slots = []
look_rules N edits = []
look_rules N (convert from to i) = (3, past i (most_by from N.text)) ∷ []
look_rules N (copy s e out) = (3, past s e || past e (length N.text)) ∷ (9, past (Place.bytes (between s e N.text)) out) ∷ []
look_rules N (read p) = (3, past p (length N.text)) ∷ []
look_rules N (preview p piece q) = insert_rules piece_most N p piece ++ ((3, past q (length (put_in p (decode piece) N.text))) ∷ [])
look_rules N (place k) = (7, is_free (mark_of N k)) ∷ []
look_rules N (line k) = (7, is_free (mark_of N k)) ∷ []

abbrev pub rules_of : Note → Call → List Rule
rules_of N (insert p piece) = insert_rules piece_most N p piece
rules_of N (remove s e) = remove_rules N s e
rules_of N (set_mark p) = (3, past p (length N.text)) ∷ (8, leb 256 (lowest N.marks)) ∷ []
rules_of N (drop_mark k) = (7, is_free (mark_of N k)) ∷ []
rules_of N (look l) = look_rules N l

-- whether an outcome is a value, and else the number
abbrev pub judged : {A : Type 0} → Outcome A → Outcome (Unit {0})
judged o = mapped (λ a. tt) o

judged-mapped : {A B : Type 0} (f : A → B) (o : Outcome A) → judged (mapped f o) ≡ judged o
judged-mapped f (value a) = refl
judged-mapped f (refused n) = refl

judged-ruled : {A : Type 0} (rs : List Rule) (a : A) → judged (ruled rs a) ≡ ruled rs tt
judged-ruled rs a = mapped-ruled (λ b. tt) rs a

look-rules : (N : Note) (l : Look) → judged (looking N l) ≡ ruled (look_rules N l) tt
unfolding looking
look-rules N (total m) = refl
look-rules N slots = refl
look-rules N edits = refl
look-rules N (convert from to i) = judged-mapped is (converted from to N i) ∙ judged-ruled (look_rules N (convert from to i)) _
look-rules N (copy s e out) = judged-mapped bytes (copied N s e out) ∙ judged-ruled (look_rules N (copy s e out)) _
look-rules N (read p) = judged-mapped bytes (read_from N p) ∙ judged-ruled (look_rules N (read p)) _
look-rules N (preview p piece q) = judged-mapped bytes (previewed N p piece q) ∙ judged-ruled (look_rules N (preview p piece q)) _
look-rules N (place k) = judged-mapped is (standing N k) ∙ judged-ruled (look_rules N (place k)) _
look-rules N (line k) = judged-mapped is (line_beside N k) ∙ judged-mapped (line_at N.text) (standing N k) ∙ judged-ruled (look_rules N (line k)) _

-- THEOREM: these rules alone decide whether a call is accepted, and by which number it is refused.
pub by-rules : (N : Note) (c : Call) → judged (called N c) ≡ ruled (rules_of N c) tt
unfolding called
by-rules N (insert p piece) = judged-mapped (said by) (inserting N p piece) ∙ judged-mapped _ (inserted N p piece) ∙ judged-ruled (insert_rules piece_most N p piece) _
by-rules N (remove s e) = judged-mapped (said by) (removing N s e) ∙ judged-mapped _ (removed N s e) ∙ judged-ruled (remove_rules N s e) _
by-rules N (set_mark p) = judged-mapped (said is) (setting N p) ∙ judged-ruled (rules_of N (set_mark p)) _
by-rules N (drop_mark k) = judged-mapped (said (λ u. done)) (dropping N k) ∙ judged-ruled (rules_of N (drop_mark k)) _
by-rules N (look l) = judged-mapped (λ a. (a, N)) (looking N l) ∙ look-rules N l

-- their numbers rise, but for a preview: its own 3 comes behind all of the insertion's
abbrev pub is_preview : Call → Bool
is_preview (insert p piece) = false
is_preview (remove s e) = false
is_preview (set_mark p) = false
is_preview (drop_mark k) = false
is_preview (look (total m)) = false
is_preview (look slots) = false
is_preview (look edits) = false
is_preview (look (convert from to i)) = false
is_preview (look (copy s e out)) = false
is_preview (look (read p)) = false
is_preview (look (preview p piece q)) = true
is_preview (look (place k)) = false
is_preview (look (line k)) = false

pub rules-rise : (N : Note) (c : Call) → is_preview c ≡ false → Rising 0 (rules_of N c)
rules-rise N (insert p piece) e = (omega arith, (omega arith, (omega arith, (omega arith, tt))))
rules-rise N (remove s e') e = (omega arith, tt)
rules-rise N (set_mark p) e = (omega arith, (omega arith, tt))
rules-rise N (drop_mark k) e = (omega arith, tt)
rules-rise N (look (total m)) e = tt
rules-rise N (look slots) e = tt
rules-rise N (look edits) e = tt
rules-rise N (look (convert from to i)) e = (omega arith, tt)
rules-rise N (look (copy s e' out)) e = (omega arith, (omega arith, tt))
rules-rise N (look (read p)) e = (omega arith, tt)
rules-rise N (look (preview p piece q)) e = absurd (true≢false e)
rules-rise N (look (place k)) e = (omega arith, tt)
rules-rise N (look (line k)) e = (omega arith, tt)

module _ (N : Note) (c : Call) where
  -- THEOREM: a call is refused where one of its rules applies, and nowhere else, and by the lowest number that applies.
  pub applies-refuses : (j : ℕ) (r : Said × Note) → Applies j (rules_of N c) → called N c ≡ value r → ⊥
  applies-refuses j r a e = applies-refused j (rules_of N c) a (passed (rules_of N c) tt tt (sym (by-rules N c) ∙ ap judged e)).0

  pub refusal-applies : (n : ℕ) → called N c ≡ refused n → Applies n (rules_of N c)
  refusal-applies n e = refused-applies (rules_of N c) tt n (sym (by-rules N c) ∙ ap judged e)

  pub refusal-lowest : (n j : ℕ) → is_preview c ≡ false → called N c ≡ refused n → Applies j (rules_of N c) → n ≤ j
  refusal-lowest n j h e a = refused-lowest 0 (rules_of N c) tt n j (rules-rise N c h) (sym (by-rules N c) ∙ ap judged e) a

-- THEOREM: a preview is refused as the insertion would be; only where that is accepted, by 3 for a place past the joined end.
module _ (N : Note) (p q : ℕ) (piece : List ℕ) where
  abbrev own : List Rule
  own = (3, past q (length (put_in p (decode piece) N.text))) ∷ []

  pub preview-refused : (n : ℕ) → called N (insert p piece) ≡ refused n → judged (called N (look (preview p piece q))) ≡ refused n
  preview-refused n e = by-rules N (look (preview p piece q)) ∙ more-refused (insert_rules piece_most N p piece) own tt tt n (sym (by-rules N (insert p piece)) ∙ ap judged e)

  pub preview-else : (r : Said × Note) → called N (insert p piece) ≡ value r → judged (called N (look (preview p piece q))) ≡ ruled own tt
  preview-else r e = by-rules N (look (preview p piece q)) ∙ more-passed (insert_rules piece_most N p piece) own tt tt tt (sym (by-rules N (insert p piece)) ∙ ap judged e)
