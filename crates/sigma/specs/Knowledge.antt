-- The words of demand 3 on values (00, demand 3; 01, "A round"): witnesses, honest and simulated rounds, what it means that
-- rounds are exactly the accepted ones, each met once, and what the extractor gives for two rounds.
-- Assumes nothing.
use Rattle.std.specs.Prelude.{ℕ, ◌*◌, ◌%◌, ◌<◌, ◌≡◌, ◌≢◌, List, ℤ, pos, ◌-ℤ◌, ◌*ℤ◌, get_or}
use Rattle.types.specs.declared.Computed.{Computed}
use Rattle.types.specs.declared.Header.{Header}
use Rattle.types.specs.declared.Round.{Round}
use Rattle.types.specs.declared.Verdict.TheVariants.{Accepted}
use Rattle.groups.specs.Transcript.{Bezout}
use Rattle.lists.specs.Each.{Each}
use Rattle.lists.specs.Places.{places, pad8}
use Rattle.numbers.specs.Integer.{power, residue}
use Rattle.numbers.specs.Inverse.{inverse}
use Rattle.sigma.specs.Instance.{Instance, statement_at, table_of}
use Rattle.sigma.specs.Element.{Coordinate}
use Rattle.sigma.specs.Image.{image}
use Rattle.sigma.specs.Judge.{judge_loaded}
use Rattle.sigma.specs.Reads.{Agree, round_of, SameRound}
use Rattle.sigma.specs.Round.{response}
use Rattle.sigma.specs.Simulator.{simulated}

-- a choice of n domain slots
abbrev pub Choice : Instance → List ℕ → Type 0
Choice inst x = Each (Coordinate inst.header) inst.header.columns x

-- x is a witness: n domain slots with [x] = z
pub record Witness (inst : Instance) (x : List ℕ) : Type 0 where
  pub slots : Choice inst x
  pub carried : image (table_of inst) x ≡ places inst.header.rows inst.statement

-- the call that judges rounds answers accepted
abbrev pub AcceptedRound : Instance → Round → Type 0
AcceptedRound inst round = judge_loaded inst round ≡ Accepted

-- the honest round of witness x, challenge c and nonce k
unfoldable pub honest_on : Instance → List ℕ → ℕ → List ℕ → Round
honest_on inst x c k = round_of (image (table_of inst) k) c (response inst.header k c x)

-- the simulated round of challenge c and response r
unfoldable pub simulated_on : Instance → ℕ → List ℕ → Round
simulated_on inst c r = round_of (simulated inst c r) c r

-- the rounds that `make` gives over all choices are exactly the accepted rounds with challenge c, each met once
pub record MeetsEachOnce (h : Header) (Slots : List ℕ → Type 0) (Accepts : Round → Type 0) (c : ℕ) (make : List ℕ → Round) : Type 0 where
  pub challenged : (x : List ℕ) → Slots x → (make x).challenge ≡ c
  pub accepted : (x : List ℕ) → Slots x → Accepts (make x)
  pub met : (round : Round) → round.challenge ≡ c → Accepts round → (x : List ℕ) × Slots x × SameRound h (make x) round
  pub once : (x y : List ℕ) → Slots x → Slots y → SameRound h (make x) (make y) → x ≡ y

-- two accepted rounds with equal commitments and different challenges
pub record AcceptedPair (h : Header) (Accepts : Round → Type 0) (first second : Round) : Type 0 where
  pub first_accepted : Accepts first
  pub second_accepted : Accepts second
  pub commitments : Agree h.rows first.commitment second.commitment
  pub challenges : first.challenge ≢ second.challenge

-- the call `ask` gives a witness for two rounds, the same one with the rounds swapped, and slot by slot it is 01's formula for
-- all integers a and b with ℓa + (c − c')b = 1, of which there are some: b(r − r') mod q in kind 1, z^a · (r/r')^b in kind 2
pub record Extraction (inst : Instance) (ask : Round → Round → Computed) (first second : Round) : Type 0 where
  pub value : List ℕ
  pub witness : Witness inst value
  pub answer : ask first second ≡ record { refusal = 0; values = pad8 0 value }
  pub swapped : ask second first ≡ ask first second
  pub exponent : inst.header.kind ≡ 1 → (a b : ℤ) → Bezout inst.header.order first.challenge second.challenge a b
      → (j : ℕ) → j < inst.header.columns
      → get_or value j 0
      ≡ residue inst.header.order (b *ℤ (pos (get_or first.response j 0) -ℤ pos (get_or second.response j 0)))
  pub root : inst.header.kind ≢ 1 → (a b : ℤ) → Bezout inst.header.order first.challenge second.challenge a b
      → (j : ℕ) → j < inst.header.columns
      → get_or value j 0
      ≡ power inst.header.modulus (statement_at inst j) a
      * power inst.header.modulus
      (get_or first.response j 0 * inverse inst.header.modulus (get_or second.response j 0) % inst.header.modulus) b
      % inst.header.modulus
  pub some_integers : (a : ℤ) × (b : ℤ) × Bezout inst.header.order first.challenge second.challenge a b
