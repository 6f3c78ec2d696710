-- Demand 2 (00) in the words of Maurer's paper (004, section 5): a sheet that loads is a homomorphism of commutative groups with
-- a statement, and the calls run the paper's main protocol, its simulator and its extractor over it.
-- Assumes nothing.
use Rattle.std.specs.Prelude.{ℕ, ◌*◌, ◌%◌, ◌<◌, ◌≡◌, ◌↔◌, ◌≢◌, List, ℤ, pos, get_or, replicate}
use Rattle.types.specs.declared.Round.{Round}
use Rattle.types.specs.declared.Verdict.TheVariants.{Accepted}
use Rattle.groups.specs.Group.{Group, group_power}
use Rattle.groups.specs.Homomorphism.{Homomorphism}
use Rattle.groups.specs.Transcript.{Accepting, Bezout, honest_response, simulated_commitment, witness_formula}
use Rattle.lists.specs.Each.{Each}
use Rattle.lists.specs.Places.{pad8}
use Rattle.formats.specs.Sheet.{instance_of}
use Rattle.sigma.specs.Domain.{Domain, Codomain}
use Rattle.sigma.specs.Element.{Element, Coordinate, combine}
use Rattle.sigma.specs.Image.{row_image}
use Rattle.sigma.specs.Instance.{Table, table_of}
use Rattle.sigma.specs.Reads.{round_of}
use Rattle.runs.specs.JointRun.{told}
use Rattle.runs.specs.OnSheet.{Below, read_slots, read_values}
use Rattle.runs.specs.RunCalls.{RunCalls}

-- the table of a sheet
abbrev pub table_in : List ℕ → Table
table_in sheet = table_of (instance_of sheet)

module _ (code : RunCalls) where
  open code use {judge_round, simulate_commitment, extract_witness, new_prover, commit, respond}

  pub record MainProtocol (sheet : List ℕ) : Type 0 where
    -- the choices of n domain slots form a commutative group under the domain's operation, slot by slot
    pub domain : Group (Domain (table_in sheet))
    pub joined : (x y : Domain (table_in sheet)) (j : ℕ) → j < (table_in sheet).header.columns
        → get_or (domain.product x y).0 j 0 ≡ combine (table_in sheet).header (get_or x.0 j 0) (get_or y.0 j 0)
    -- lists of s group elements form one under the product mod m, row by row
    pub codomain : Group (Codomain (table_in sheet))
    pub multiplied : (t u : Codomain (table_in sheet)) (i : ℕ) → i < (table_in sheet).header.rows
        → get_or (codomain.product t u).0 i 0 ≡ get_or t.0 i 0 * get_or u.0 i 0 % (table_in sheet).header.modulus
    -- the table's image [x] is a homomorphism between the two
    pub table : Homomorphism domain codomain
    pub carried : (x : Domain (table_in sheet)) (i : ℕ) → i < (table_in sheet).header.rows
        → get_or (table.map x).0 i 0 ≡ row_image (table_in sheet) x.0 i
    -- and the statement is an element of the second
    pub statement : Codomain (table_in sheet)
    pub stated : statement.0 ≡ read_values sheet (instance_of sheet).statement
    -- Peggy's commitment to a nonce k in a new session is [k]
    pub commits : (k : Domain (table_in sheet))
        → ((commit sheet new_prover k.0).refusal ≡ 0) × ((commit sheet new_prover k.0).values ≡ pad8 0 (table.map k).0)
    -- her response to a challenge c with a witness x, in the session that committing handed back, is k · x^c
    pub responds : (x k : Domain (table_in sheet)) (c : ℕ) → table.map x ≡ statement → Below sheet c
        → ((respond sheet (commit sheet new_prover k.0).session c x.0).refusal ≡ 0)
        × ((respond sheet (commit sheet new_prover k.0).session c x.0).values ≡ pad8 0 (honest_response domain x c k).0)
    -- the round (t, c, r) is accepted exactly where [r] = t · z^c
    pub accepts : (t : Codomain (table_in sheet)) (c : ℕ) (r : Domain (table_in sheet)) → Below sheet c
        → (judge_round sheet (round_of t.0 c r.0) ≡ Accepted) ↔ Accepting table statement t c r
    -- which is the verdict of Vic's session on t, then c, then r
    pub verifies : (t : Codomain (table_in sheet)) (c : ℕ) (r : Domain (table_in sheet)) → Below sheet c
        → (told code sheet (round_of t.0 c r.0)).verdict ≡ judge_round sheet (round_of t.0 c r.0)
    -- and no other round is accepted
    pub no_other : (round : Round) → judge_round sheet round ≡ Accepted
        → Each (Element (table_in sheet).header) (table_in sheet).header.rows (read_values sheet round.commitment)
        × Below sheet round.challenge
        × Each (Coordinate (table_in sheet).header) (table_in sheet).header.columns (read_slots sheet round.response)
    -- the simulated commitment for c and r, of which n places are read, is [r] · z^(−c)
    pub simulates : (c : ℕ) (r : List ℕ) (slots : Each (Coordinate (table_in sheet).header) (table_in sheet).header.columns (read_slots sheet r))
        → Below sheet c
        → simulate_commitment sheet c r
        ≡ record { refusal = 0; values = pad8 0 (simulated_commitment table statement c (read_slots sheet r, slots)).0 }
    -- u of the extractor's formula has [u] = z^ℓ: it is zeros in kind 1 and z in kind 2
    pub base : Domain (table_in sheet)
    pub based : table.map base ≡ group_power codomain statement (pos (table_in sheet).header.order)
    pub base_exponent : (table_in sheet).header.kind ≡ 1 → base.0 ≡ replicate (table_in sheet).header.columns 0
    pub base_root : (table_in sheet).header.kind ≢ 1 → base.0 ≡ statement.0
    -- from two accepted rounds with one commitment and different challenges the extractor gives u^a · (r/r')^b, for all integers a
    -- and b with ℓa + (c − c')b = 1
    pub extracts : (t : Codomain (table_in sheet)) (c c' : ℕ) (r r' : Domain (table_in sheet)) → Below sheet c → Below sheet c'
        → c ≢ c' → Accepting table statement t c r → Accepting table statement t c' r'
        → (a b : ℤ) → Bezout (table_in sheet).header.order c c' a b
        → extract_witness sheet (round_of t.0 c r.0) (round_of t.0 c' r'.0)
        ≡ record { refusal = 0; values = pad8 0 (witness_formula domain base a b r r').0 }
