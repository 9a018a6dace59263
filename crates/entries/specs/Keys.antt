-- The different keys that entries show.
use Rattle.std.specs.Prelude.{◌≡◌, Bool, true, List, [], ◌∷◌, ◌++◌, ℕ, ◌+◌, ◌<◌, ◌≤◌, length, get_or, take, Option, Some, None}
use Rattle.rules.specs.Words.{◌∈◌, Distinct, Tests}
use Rattle.rules.specs.Book.{key_of, most_streams}
use Rattle.rules.specs.Table.{on_way}
use Rattle.rules.specs.Tables.{operation_at, id_at, OfStream}

-- entry i shows the key; where only those count that a source sends, it does so
pub record ShowsKey (sent : Bool) (tables : List ℕ) (i k : ℕ) : Type 0 where
  pub way : ℕ
  pub of_stream : OfStream (operation_at tables i) way
  pub from_source : sent ≡ true → operation_at tables i ≡ on_way way 1
  pub pair : k ≡ key_of (id_at tables i) way

-- what is answered of operations on their ways: yes, or, where only those count that a source sends, whether it is one of them
abbrev pub Counts : Bool → (ℕ → ℕ → Bool → Type 0) → Type 0
Counts sent answers = (operation way : ℕ) (t : Bool) → answers operation way t → Tests t (sent ≡ true → operation ≡ on_way way 1)

-- the key that the entry shows, and 0 where it shows none
pub record KeyAt (sent : Bool) (tables : List ℕ) (i r : ℕ) : Type 0 where
  pub is : (k : ℕ) → ShowsKey sent tables i k → r ≡ k
  pub shows : (r ≡ 0 → ⊥) → ShowsKey sent tables i r

abbrev pub KeyOf : Bool → List ℕ → ℕ → Option ℕ → Type 0
KeyOf sent tables i (Some k) = (1 ≤ k) × KeyAt sent tables i k
KeyOf sent tables i None = KeyAt sent tables i 0

-- what is there behind a key and its entry: the same, or one more of each
pub data Noted (keys entries : List ℕ) (found key i : ℕ) : Option ℕ → List ℕ → List ℕ → Type 0 where
  there : key ∈ take found keys → Noted keys entries found key i (Some found) keys entries
  full : (key ∈ take found keys → ⊥) → found ≡ most_streams → Noted keys entries found key i None keys entries
  put : {keys' entries' : List ℕ} → (key ∈ take found keys → ⊥) → found < most_streams → take (found + 1) keys' ≡ take found keys ++ (key ∷ [])
      → take (found + 1) entries' ≡ take found entries ++ (i ∷ []) → Noted keys entries found key i (Some (found + 1)) keys' entries'

-- the different keys of the first entries, and of each the first entry that shows it
pub record KeysOf (sent : Bool) (tables : List ℕ) (count : ℕ) (keys entries : List ℕ) : Type 0 where
  pub even : length entries ≡ length keys
  pub different : Distinct keys
  pub all : (i k : ℕ) → i < count → ShowsKey sent tables i k → k ∈ keys
  pub inside : (p : ℕ) → p < length keys → get_or entries p 0 < count
  pub shown : (p : ℕ) → p < length keys → ShowsKey sent tables (get_or entries p 0) (get_or keys p 0)
  pub first : (p i : ℕ) → p < length keys → ShowsKey sent tables i (get_or keys p 0) → get_or entries p 0 ≤ i

-- over 64 different keys are shown
pub record Over (sent : Bool) (tables : List ℕ) (count : ℕ) : Type 0 where
  pub keys : List ℕ
  pub different : Distinct keys
  pub shown : (k : ℕ) → k ∈ keys → (i : ℕ) × (i < count) × ShowsKey sent tables i k
  pub over : most_streams < length keys

-- they are the first so many of the arrays; or over 64
abbrev pub Collected : Bool → List ℕ → ℕ → Option ℕ → List ℕ → List ℕ → Type 0
Collected sent tables count (Some r) keys entries = (r ≤ most_streams) × KeysOf sent tables count (take r keys) (take r entries)
Collected sent tables count None keys entries = Over sent tables count
