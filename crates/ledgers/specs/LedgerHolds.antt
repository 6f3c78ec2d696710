-- What 02's fourteenth card asks: which refusals the checker and the writer of a ledger give, what they answer in numbers, and that the
-- rounds are 01's: those of product lines are judged and extracted from by 01's calls, and those that are made are honest.
-- Assumes nothing.
use Rattle.std.specs.Prelude.{ℕ, ◌+◌, ◌*◌, ◌%◌, ◌^◌, ◌<◌, ◌≤◌, ◌≡◌, true, ◌⊎◌, ◌≢◌, List, [], ◌∷◌, get_or, length, replicate}
use Rattle.types.specs.declared.Round.{Round}
use Rattle.types.specs.declared.Verdict.TheVariants.{Rejected}
use Rattle.lists.specs.Places.{places}
use Rattle.rules.specs.Order.{is_sublist, refusal_order}
use Rattle.rules.specs.Refuses.{Refuses}
use Rattle.formats.specs.FileCalls.{FileCalls}
use Rattle.formats.specs.Outcome.{Puts}
use Rattle.formats.specs.Sheet.{instance_of}
use Rattle.patterns.specs.MakerCalls.{MakerCalls}
use Rattle.patterns.specs.Table.{made, shipped}
use Rattle.runs.specs.Knowledge.{Accepts, honest_round}
use Rattle.runs.specs.RunCalls.{RunCalls}
use Rattle.sigma.specs.Knowledge.{Witness}
use Rattle.sigma.specs.Reads.{Agree}
use Rattle.ledgers.specs.LedgerCalls.{LedgerCalls}
use Rattle.ledgers.specs.Lines.{entry_at, line_at}
use Rattle.ledgers.specs.Meaning.{Commits, Opens, ProductEntry, ProductLine, RowsHold, Values, committed, product_sheet, round_at}
use Rattle.ledgers.specs.Refusals.{check_conditions, write_conditions}
use Rattle.ledgers.specs.Used.{SameEntries, SameLedger}
use Rattle.ledgers.specs.declared.Base.{Base}
use Rattle.ledgers.specs.declared.Checked.{Checked}
use Rattle.ledgers.specs.declared.Entries.{Entries}
use Rattle.ledgers.specs.declared.Ledger.{Ledger}

-- ---- refusals

module _ (ledgers : LedgerCalls) where
  open ledgers use {check_ledger, write_ledger}

  -- for any numbers and any lines
  pub record LedgerRefusals : Type 0 where
    -- checking; a refused call answers zeros beside the number
    pub checking : (base : Base) (ledger : Ledger)
        → Refuses (5 ∷ 6 ∷ 8 ∷ 10 ∷ 37 ∷ 35 ∷ 36 ∷ 14 ∷ 15 ∷ 16 ∷ []) (check_conditions base ledger) (check_ledger base ledger).refusal
        (((check_ledger base ledger).accepted ≡ 0) × ((check_ledger base ledger).line ≡ 0))
    -- writing; a refused call answers a ledger of zeros beside the number
    pub writing : (base : Base) (entries : Entries)
        → Refuses (5 ∷ 6 ∷ 8 ∷ 10 ∷ 37 ∷ 35 ∷ 36 ∷ 15 ∷ 16 ∷ []) (write_conditions base entries) (write_ledger base entries).refusal
        ((write_ledger base entries).ledger
        ≡ record {
          lines = replicate 64 (record {
            kind = 0;
            first = 0;
            second = 0;
            commitment = 0;
            t = 0 ∷ 0 ∷ [];
            challenge = 0;
            response = 0 ∷ 0 ∷ 0 ∷ [];
          });
          count = 0;
        })
    -- in the order of all numbers 37, 35 and 36 stand after 11, with 37 first
    pub inserted : is_sublist (11 ∷ 37 ∷ 35 ∷ 36 ∷ 12 ∷ []) refusal_order ≡ true

-- ---- answers in numbers

-- what the checker tells of lines with the commitments C: accepted if every product line's round is, else the first whose round is not
abbrev pub Tells : Base → Ledger → (ℕ → ℕ) → Checked → Type 0
Tells base ledger C told =
    ((told ≡ record { accepted = 1; line = 0; refusal = 0 })
    × ((i A B E : ℕ) → ProductLine ledger C i A B E → RowsHold base A B E (line_at ledger i)))
    ⊎ ((k : ℕ) × (told ≡ record { accepted = 0; line = k; refusal = 0 })
    × ((A : ℕ) × (B : ℕ) × (E : ℕ) × ProductLine ledger C k A B E × (¬ RowsHold base A B E (line_at ledger k)))
    × ((i A B E : ℕ) → i < k → ProductLine ledger C i A B E → RowsHold base A B E (line_at ledger i)))

-- a ledger is made of entries with the values v and the blinding numbers ρ
pub record MadeOf (base : Base) (entries : Entries) (v ρ : ℕ → ℕ) (ledger : Ledger) : Type 0 where
  -- it has as many lines, in room for 64
  pub count : ledger.count ≡ entries.count
  pub room : length ledger.lines ≡ 64
  -- a commitment's line has C(v, ρ)
  pub commitments : (i : ℕ) → i < entries.count → (entry_at entries i).kind ≡ 1
      → line_at ledger i
      ≡ record {
        kind = 1;
        first = 0;
        second = 0;
        commitment = committed base (v i) (ρ i);
        t = 0 ∷ 0 ∷ [];
        challenge = 0;
        response = 0 ∷ 0 ∷ 0 ∷ [];
      }
  -- a sum's line has the two lines
  pub sums : (i : ℕ) → i < entries.count → (entry_at entries i).kind ≡ 2
      → line_at ledger i
      ≡ record {
        kind = 2;
        first = (entry_at entries i).first;
        second = (entry_at entries i).second;
        commitment = 0;
        t = 0 ∷ 0 ∷ [];
        challenge = 0;
        response = 0 ∷ 0 ∷ 0 ∷ [];
      }
  -- a product's line has the two lines, C(v, ρ), the challenge c and the honest round of the nonce (k0, k1, k2) and the witness
  -- (a, α, δ): t is (g^k0 · h^k1, B^k0 · h^k2) mod m for B = C(b, β), and r is (k0 + c·a, k1 + c·α, k2 + c·δ) mod q
  pub products : (i a α b β δ : ℕ) → ProductEntry base entries v ρ i a α b β δ
      → line_at ledger i
      ≡ record {
        kind = 3;
        first = (entry_at entries i).first;
        second = (entry_at entries i).second;
        commitment = committed base (v i) (ρ i);
        t =
            base.g ^ get_or (entry_at entries i).nonce 0 0 * base.h ^ get_or (entry_at entries i).nonce 1 0 % base.modulus ∷
            committed base b β ^ get_or (entry_at entries i).nonce 0 0 * base.h ^ get_or (entry_at entries i).nonce 2 0 % base.modulus ∷ [];
        challenge = (entry_at entries i).challenge;
        response =
            (get_or (entry_at entries i).nonce 0 0 + (entry_at entries i).challenge * a) % base.order ∷
            (get_or (entry_at entries i).nonce 1 0 + (entry_at entries i).challenge * α) % base.order ∷
            (get_or (entry_at entries i).nonce 2 0 + (entry_at entries i).challenge * δ) % base.order ∷ [];
      }
  -- and there is such a δ
  pub difference : (i : ℕ) → i < entries.count → (entry_at entries i).kind ≡ 3
      → (a : ℕ) × (α : ℕ) × (b : ℕ) × (β : ℕ) × (δ : ℕ) × ProductEntry base entries v ρ i a α b β δ
  -- lines beyond the count are zeros
  pub beyond : (i : ℕ) → entries.count ≤ i → i < 64
      → line_at ledger i
      ≡ record { kind = 0; first = 0; second = 0; commitment = 0; t = 0 ∷ 0 ∷ []; challenge = 0; response = 0 ∷ 0 ∷ 0 ∷ [] }

module _ (ledgers : LedgerCalls) where
  open ledgers use {check_ledger, write_ledger}

  -- what a call that is not refused answers
  pub record LedgerAnswers : Type 0 where
    -- the lines have commitments, and the checker tells of them
    pub checked : (base : Base) (ledger : Ledger) → (check_ledger base ledger).refusal ≡ 0
        → (C : ℕ → ℕ) × Commits base ledger C × Tells base ledger C (check_ledger base ledger)
    -- the entries have values, and the ledger is made of them
    pub written : (base : Base) (entries : Entries) → (write_ledger base entries).refusal ≡ 0
        → (v : ℕ → ℕ) × (ρ : ℕ → ℕ) × Values base entries v ρ × MadeOf base entries v ρ (write_ledger base entries).ledger

-- ---- by 01's calls

module _ (files : FileCalls) (runs : RunCalls) (makers : MakerCalls) (ledgers : LedgerCalls) where
  open files use {load}
  open runs use {commit, extract_witness, judge_round, new_prover, respond}
  open makers use {make_from}
  open ledgers use {check_ledger, write_ledger}

  -- the product lines of a ledger whose lines have the commitments C are 01's
  pub record ProductLines (base : Base) (ledger : Ledger) (C : ℕ → ℕ) : Type 0 where
    -- the line's sheet loads as pattern 5 over g, h and B for (A, E), and the sheet maker makes it from the shipped file
    pub loads : (i A B E : ℕ) → ProductLine ledger C i A B E → (load (product_sheet base A B E)).refusal ≡ 0
    pub values : (i A B E : ℕ) → ProductLine ledger C i A B E
        → instance_of (product_sheet base A B E)
        ≡ made 5 base.modulus base.order base.challenges (base.g ∷ base.h ∷ B ∷ []) (A ∷ E ∷ [])
    pub pattern : (i A B E : ℕ) → ProductLine ledger C i A B E → (buffer : List ℕ) → 52 ≤ length buffer
        → Puts (product_sheet base A B E) buffer
        (make_from shipped 5 base.modulus base.order base.challenges (base.g ∷ base.h ∷ B ∷ []) (A ∷ E ∷ []) buffer)
    -- the checker accepts if 01's judging call accepts every product line's round on its sheet, else it names the first that this
    -- rejects
    pub judged :
        ((check_ledger base ledger ≡ record { accepted = 1; line = 0; refusal = 0 })
        × ((i A B E : ℕ) → ProductLine ledger C i A B E → Accepts runs (product_sheet base A B E) (round_at ledger i)))
        ⊎ ((k : ℕ) × (check_ledger base ledger ≡ record { accepted = 0; line = k; refusal = 0 })
        × ((A : ℕ) × (B : ℕ) × (E : ℕ) × ProductLine ledger C k A B E
        × ((mask : ℕ) × (judge_round (product_sheet base A B E) (round_at ledger k) ≡ Rejected mask)))
        × ((i A B E : ℕ) → i < k → ProductLine ledger C i A B E → Accepts runs (product_sheet base A B E) (round_at ledger i)))
    -- if a product line's round is accepted, and a second one on the same t with another challenge too, and the second factor is
    -- C(b, β), then the extracted a, α and δ open the first factor to a with α, and the product to ab mod q with aβ + δ mod q
    pub opens : (i A B E : ℕ) → ProductLine ledger C i A B E → (second : Round)
        → Accepts runs (product_sheet base A B E) (round_at ledger i) → Accepts runs (product_sheet base A B E) second
        → Agree 2 (round_at ledger i).commitment second.commitment → (round_at ledger i).challenge ≢ second.challenge
        → (b β : ℕ) → B ≡ committed base b β
        → (a : ℕ) × (α : ℕ) × (δ : ℕ)
        × (extract_witness (product_sheet base A B E) (round_at ledger i) second
        ≡ record { values = a ∷ α ∷ δ ∷ 0 ∷ 0 ∷ 0 ∷ 0 ∷ 0 ∷ []; refusal = 0 })
        × Opens base A a α × Opens base E (a * b % base.order) ((a * β + δ) % base.order)

  -- the round of line i as it is made is 01's honest round of a sheet, the witness x, the entry's challenge and its nonce, and Peggy
  -- refuses neither
  pub record Honest (base : Base) (entries : Entries) (i : ℕ) (sheet x : List ℕ) : Type 0 where
    pub witness : Witness (instance_of sheet) x
    pub commits : (commit sheet new_prover (places 3 (entry_at entries i).nonce)).refusal ≡ 0
    pub responds :
        (respond sheet (commit sheet new_prover (places 3 (entry_at entries i).nonce)).session (entry_at entries i).challenge x).refusal
        ≡ 0
    pub commitment : Agree 2 (round_at (write_ledger base entries).ledger i).commitment
        (honest_round runs sheet x (entry_at entries i).challenge (places 3 (entry_at entries i).nonce)).commitment
    pub response : Agree 3 (round_at (write_ledger base entries).ledger i).response
        (honest_round runs sheet x (entry_at entries i).challenge (places 3 (entry_at entries i).nonce)).response

  pub record LedgerHolds : Type 0 where
    pub answers : LedgerAnswers ledgers
    -- product lines are 01's, for the m and q of 32 bits that a sheet stores
    pub product_lines : (base : Base) (ledger : Ledger) → base.modulus < 2 ^ 32 → base.order < 2 ^ 32
        → (check_ledger base ledger).refusal ≡ 0 → (C : ℕ → ℕ) → Commits base ledger C → ProductLines base ledger C
    -- numbers that a kind does not use and lines beyond the count are not read
    pub lines_alone : (base : Base) (ledger ledger' : Ledger) → SameLedger ledger ledger'
        → check_ledger base ledger ≡ check_ledger base ledger'
    pub entries_alone : (base : Base) (entries entries' : Entries) → SameEntries entries entries'
        → write_ledger base entries ≡ write_ledger base entries'
    -- every line that is made has a commitment that opens to its value with its blinding number
    pub made_opens : (base : Base) (entries : Entries) → (write_ledger base entries).refusal ≡ 0 → (v ρ C : ℕ → ℕ)
        → Values base entries v ρ → Commits base (write_ledger base entries).ledger C
        → (i : ℕ) → i < entries.count → Opens base (C i) (v i) (ρ i)
    -- every product line that is made has the honest round of the witness (a, α, ε − aβ mod q)
    pub made_honest : (base : Base) (entries : Entries) → base.modulus < 2 ^ 32 → base.order < 2 ^ 32
        → (write_ledger base entries).refusal ≡ 0 → (v ρ : ℕ → ℕ) → Values base entries v ρ
        → (i a α b β δ : ℕ) → ProductEntry base entries v ρ i a α b β δ
        → Honest base entries i
        (product_sheet base (committed base a α) (committed base b β)
        (committed base (a * b % base.order) (entry_at entries i).blinding))
        (a ∷ α ∷ δ ∷ [])
    -- the checker accepts all that the writer makes
    pub made_accepted : (base : Base) (entries : Entries) → (write_ledger base entries).refusal ≡ 0
        → check_ledger base (write_ledger base entries).ledger ≡ record { accepted = 1; line = 0; refusal = 0 }
