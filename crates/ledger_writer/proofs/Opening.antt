-- What an entry opens to, and its line, of an array that keeps what the lines above open to.
-- Assumes nothing.
use Prim.Native.Nat.{ℕ, ◌+◌, ◌*◌, ◌%◌, ◌<◌}
use mathlib.Core.Path.{◌≡◌, refl, sym, ap, ap₂, ◌∙◌}
use mathlib.Core.Logic.{◌≢◌}
use mathlib.Core.List.{List}
use native.Mathlib.Numerals.{add-one}
use borrow.Author.Tests.{ne_eqb}
use lib.ListN.{get_or, replicate, set}
use Rattle.ledger_lines.proofs.Kept.{Kept, kept_start, kept_turn}
use Rattle.ledgers.specs.Lines.{entry_at}
use Rattle.ledgers.specs.Write.{
  Opening,
  commit_to,
  line_of,
  made_commitment,
  made_product,
  made_sum,
  opening_at,
  opening_of,
  openings,
}
use Rattle.ledgers.specs.declared.Base.{Base}
use Rattle.ledgers.specs.declared.Entries.{Entries}
use Rattle.ledgers.specs.declared.Entry.{Entry}
use Rattle.ledgers.proofs.Made.{made_product_law}
use Rattle.ledgers.proofs.Openings.{length_openings}
use Rattle.ledger_writer.specs.Parts.{Keeps, none_opened, opening, plain_line}
use Rattle.ledger_writer.specs.declared.opened.Opened.{Opened}

-- ---- a loop that keeps the openings

-- what stands beyond the openings
abbrev pub no_opening : Opening
no_opening = record { value = 0; blinding = 0 }

-- an opening as it is kept
abbrev pub opened : Opening → Opened
opened o = record { value = o.value; blinding = o.blinding }

-- an array keeps a list of openings
abbrev pub KeptOpenings : List Opened → List Opening → Type 0
KeptOpenings array above = Kept no_opening none_opened opened array above

module _ (q : ℕ) (entries : Entries) where
  -- before the first entry
  pub openings_start : KeptOpenings (replicate 64 none_opened) (openings q entries 0)
  unfolding openings
  openings_start = kept_start no_opening none_opened opened refl

  -- an entry more
  pub openings_turn : (i : ℕ) (array : List Opened) (own : Opened) → KeptOpenings array (openings q entries i) → i < 64
      → opening own ≡ opening_of q (openings q entries i) (entry_at entries i)
      → KeptOpenings (set array i own) (openings q entries (i + 1))
  unfolding openings
  openings_turn i array own kept inside is =
      rw (add-one i)
      (kept_turn no_opening none_opened opened array (openings q entries i) i kept (length_openings q entries i) inside _ own (ap opened is))

-- what is read of the array
pub openings_read : (array : List Opened) (above : List Opening) → KeptOpenings array above → Keeps array above
unfolding opening_at
openings_read array above kept k = ap opening (kept.read k)

-- ---- an entry, by its kind

module _ (q : ℕ) (above : List Opening) (e : Entry) (array : List Opened) (keeps : Keeps array above) where
  -- the opening of a sum
  pub sum_opening : e.kind ≡ 2 → (own : Opened)
      → own.value ≡ ((get_or array e.first none_opened).value + (get_or array e.second none_opened).value) % q
      → own.blinding ≡ ((get_or array e.first none_opened).blinding + (get_or array e.second none_opened).blinding) % q
      → opening own ≡ opening_of q above e
  unfolding opening_of
  sum_opening two own value blinding =
      rw two (ap₂ {C = Opening} (λ (v ρ : ℕ). record { value = v; blinding = ρ })
      (value ∙ ap₂ (λ (x y : Opening). (x.value + y.value) % q) (keeps e.first) (keeps e.second))
      (blinding ∙ ap₂ (λ (x y : Opening). (x.blinding + y.blinding) % q) (keeps e.first) (keeps e.second)))

  -- of a product
  pub product_opening : e.kind ≡ 3 → (value : ℕ)
      → value ≡ (get_or array e.first none_opened).value * (get_or array e.second none_opened).value % q
      → opening (record { value = value; blinding = e.blinding }) ≡ opening_of q above e
  unfolding opening_of
  product_opening three value is =
      rw three (ap {B = Opening} (λ (v : ℕ). record { value = v; blinding = e.blinding })
      (is ∙ ap₂ (λ (x y : Opening). x.value * y.value % q) (keeps e.first) (keeps e.second)))

-- and of a commitment
pub given_opening : (q : ℕ) (above : List Opening) (e : Entry) → e.kind ≢ 2 → e.kind ≢ 3
    → opening (record { value = e.value; blinding = e.blinding }) ≡ opening_of q above e
unfolding opening_of
given_opening q above e other last = rw (ne_eqb _ _ other, ne_eqb _ _ last)

module _ (base : Base) (above : List Opening) (e : Entry) where
  -- the line of a sum
  pub line_sum : e.kind ≡ 2 → plain_line 2 e.first e.second 0 ≡ line_of base above e
  unfolding line_of made_sum
  line_sum two = rw two

  module _ (own : Opened) (is : opening own ≡ opening_of base.order above e) where
    -- of a commitment
    pub line_given : e.kind ≢ 2 → e.kind ≢ 3 → (commitment : ℕ) → commitment ≡ commit_to base (opening own)
        → plain_line 1 0 0 commitment ≡ line_of base above e
    unfolding line_of made_commitment
    line_given other last commitment made = rw (ne_eqb _ _ other, ne_eqb _ _ last, made, is)

    -- of a product
    pub line_product : e.kind ≡ 3 → made_product base above (opening own) e ≡ line_of base above e
    line_product three = ap (λ (o : Opening). made_product base above o e) is ∙ sym (made_product_law base above e three)
