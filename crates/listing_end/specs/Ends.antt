-- What it is to put the end of a listing behind the first bytes of an output.
use Rattle.std.specs.Prelude.{◌≡◌, true, false, List, ℕ}
use Rattle.memory.specs.Formed.{well_formed, note_of}
use Rattle.plain_journal.specs.Listing.{ending}
use Rattle.listing_lines.specs.Puts.{Puts}

abbrev pub Ends : List ℕ → ℕ → List ℕ → ℕ → List ℕ → Type 0
Ends m at o r o' = (well_formed m ≡ true → Puts 20590 at (ending (note_of m)) o r o') × (well_formed m ≡ false → (r ≡ at) × (o' ≡ o))
