-- What Peggy's session keeps beside its state (02, card 13): saved states by name, and the commitments that were answered.
-- Assumes nothing.
use Rattle.std.specs.Prelude.{ℕ, suc, min, Bool, not, ◌||◌, List, [], eqb, leb, get_or, replicate, set}
use Rattle.types.specs.declared.Memory.{Memory}
use Rattle.types.specs.declared.Saved.{Saved}
use Rattle.lists.specs.Places.{zeros8}
use Rattle.numbers.specs.Search.{any}
use Rattle.sigma.specs.Comparison.{differ}

-- nothing is saved and nothing is listed
unfoldable pub no_memory : Memory
no_memory =
    record {
      saved = replicate 8 (record { nonce = zeros8; commitment = zeros8; phase = 0; kept = 0 });
      answered = replicate 64 (record { commitment = zeros8 });
      count = 0;
    }

-- ---- the list of answered commitments

-- the i-th commitment of the list
unfoldable pub listed_at : Memory → ℕ → List ℕ
listed_at m i = (get_or m.answered i (record { commitment = [] })).commitment

-- whether a commitment stands in the list, compared in all eight places; of a count above 64 the first 64 are looked at
unfoldable pub is_listed : Memory → List ℕ → Bool
is_listed m t = any (min 64 m.count) (λ i. not (differ 8 (listed_at m i) t))

-- whether the list has 64 commitments or more
unfoldable pub is_full : Memory → Bool
is_full m = leb 64 m.count

-- the memory with one commitment more in the list
unfoldable pub listing : List ℕ → Memory → Memory
listing t m =
    record { saved = m.saved; answered = set m.answered m.count (record { commitment = t }); count = suc m.count }

-- ---- saved states

-- what is saved under a name
unfoldable pub saved_at : Memory → ℕ → Saved
saved_at m name = get_or m.saved name (record { nonce = []; commitment = []; phase = 0; kept = 0 })

-- whether nothing can be brought back by a name: it is outside 0 to 7, or was never saved
unfoldable pub never_saved : Memory → ℕ → Bool
never_saved m name = leb 8 name || eqb (saved_at m name).kept 0
