-- The three demands (00) and the cards (02), each once, of any calls. The theorem `holds` says that the calls as they are defined
-- meet them, and `only` that no others do.
-- Assumes nothing.
use Rattle.std.specs.Prelude.{ℕ, ◌≡◌, List}
use Rattle.formats.specs.ByteLayout.{Layout}
use Rattle.formats.specs.Writers.{Writers}
use Rattle.patterns.specs.Meaning.{PatternsMean}
use Rattle.runs.specs.Demand3.{Demand3}
use Rattle.runs.specs.MainProtocol.{MainProtocol}
use Rattle.runs.specs.Protocol.{Protocol}
use Rattle.runs.specs.Sessions.{Sessions}
use Rattle.sigma.specs.Answer.{VerdictOutcomes}
use Rattle.demands.specs.Arithmetic.{Arithmetic}
use Rattle.demands.specs.Calls.{Calls}
use Rattle.demands.specs.Cards.{Cards}
use Rattle.demands.specs.MarksFiles.{MarksFiles}
use Rattle.demands.specs.ReadsBack.{ReadsBack}
use Rattle.demands.specs.Refusals.{Refusals}

pub record Demands (code : Calls) : Type 0 where
  -- 1: every call, for any bytes and any numbers, ends in a result or in one of its refusals, whose conditions are fixed, and a
  -- refused call changes neither a lent buffer nor a session
  pub refusals : Refusals code
  -- 2: for every sheet that loads, the calls run the main protocol of Maurer's section 5 over groups and a homomorphism
  pub main_protocol : (sheet : List ℕ) → (code.files.load sheet).refusal ≡ 0 → MainProtocol code.runs sheet
  -- which is, row by row and slot by slot, what 01 says of commitments, responses and verdicts
  pub protocol : (sheet : List ℕ) → (code.files.load sheet).refusal ≡ 0 → Protocol code.runs sheet
  -- in its order of steps: over any list of calls of which none returns Peggy answers one challenge at most and holds no nonce after
  -- it, and Vic takes one commitment, then one challenge, then one response
  pub sessions : Sessions code.runs
  -- where each value stands in the bytes of sheets and round files
  pub layout : Layout code.files
  -- which bytes the calls that write put into a lent buffer
  pub writers : Writers code.files
  -- what is written reads back as what it was, and what reads is written back byte by byte
  pub files : ReadsBack code.files code.makers code.linear
  -- the marker's text on a sheet, a round file and a level is what the verdicts make it, word for word
  pub marker : MarksFiles code.files code.runs code.marker
  -- 3: the extractor gives a witness, and simulated and honest rounds are exactly the accepted ones, each met once, for every
  -- sheet that loads
  pub knowledge : (sheet : List ℕ) → (code.files.load sheet).refusal ≡ 0 → Demand3 code.runs sheet
  -- what the cards of 02 ask
  pub cards : Cards code
  -- what the words of these statements mean: the shape and the image of 01's six patterns, the arithmetic and the numerals, and the
  -- numbers and values that an enum stands for
  pub patterns : PatternsMean
  pub arithmetic : Arithmetic
  pub outcomes : VerdictOutcomes
