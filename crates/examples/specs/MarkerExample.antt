-- The round file of 01's marker example, and the text that the marker prints on it, byte by byte.
-- Assumes nothing.
use Rattle.std.specs.Prelude.{ℕ, List, [], ◌∷◌}

-- the rounds (9,3,4), (9,1,1), (9,1,2) and (5,0,0)
unfoldable pub example_file : List ℕ
example_file =
    0x52 ∷ 0x4E ∷ 0x44 ∷ 0 ∷ 1 ∷ 0 ∷ 4 ∷
    0 ∷ 0 ∷ 0 ∷ 9 ∷ 0 ∷ 0 ∷ 0 ∷ 3 ∷ 0 ∷ 0 ∷ 0 ∷ 4 ∷
    0 ∷ 0 ∷ 0 ∷ 9 ∷ 0 ∷ 0 ∷ 0 ∷ 1 ∷ 0 ∷ 0 ∷ 0 ∷ 1 ∷
    0 ∷ 0 ∷ 0 ∷ 9 ∷ 0 ∷ 0 ∷ 0 ∷ 1 ∷ 0 ∷ 0 ∷ 0 ∷ 2 ∷
    0 ∷ 0 ∷ 0 ∷ 5 ∷ 0 ∷ 0 ∷ 0 ∷ 0 ∷ 0 ∷ 0 ∷ 0 ∷ 0 ∷ []

-- the same rounds in version 2 (02, card 7)
unfoldable pub narrow_file : List ℕ
narrow_file =
    0x52 ∷ 0x4E ∷ 0x44 ∷ 0 ∷ 2 ∷ 0 ∷ 4 ∷
    0 ∷ 0 ∷ 0 ∷ 9 ∷ 0 ∷ 3 ∷ 0 ∷ 0 ∷ 0 ∷ 4 ∷
    0 ∷ 0 ∷ 0 ∷ 9 ∷ 0 ∷ 1 ∷ 0 ∷ 0 ∷ 0 ∷ 1 ∷
    0 ∷ 0 ∷ 0 ∷ 9 ∷ 0 ∷ 1 ∷ 0 ∷ 0 ∷ 0 ∷ 2 ∷
    0 ∷ 0 ∷ 0 ∷ 5 ∷ 0 ∷ 0 ∷ 0 ∷ 0 ∷ 0 ∷ 0 ∷ []

-- 01's six lines: rounds 4, 0 accepted, 1 accepted, 2 rejected 0, 3 refused 14, fail
unfoldable pub example_text : List ℕ
example_text =
    0x72 ∷ 0x6F ∷ 0x75 ∷ 0x6E ∷ 0x64 ∷ 0x73 ∷ 0x20 ∷ 0x34 ∷ 0x0A ∷
    0x30 ∷ 0x20 ∷ 0x61 ∷ 0x63 ∷ 0x63 ∷ 0x65 ∷ 0x70 ∷ 0x74 ∷ 0x65 ∷ 0x64 ∷ 0x0A ∷
    0x31 ∷ 0x20 ∷ 0x61 ∷ 0x63 ∷ 0x63 ∷ 0x65 ∷ 0x70 ∷ 0x74 ∷ 0x65 ∷ 0x64 ∷ 0x0A ∷
    0x32 ∷ 0x20 ∷ 0x72 ∷ 0x65 ∷ 0x6A ∷ 0x65 ∷ 0x63 ∷ 0x74 ∷ 0x65 ∷ 0x64 ∷ 0x20 ∷ 0x30 ∷ 0x0A ∷
    0x33 ∷ 0x20 ∷ 0x72 ∷ 0x65 ∷ 0x66 ∷ 0x75 ∷ 0x73 ∷ 0x65 ∷ 0x64 ∷ 0x20 ∷ 0x31 ∷ 0x34 ∷ 0x0A ∷
    0x66 ∷ 0x61 ∷ 0x69 ∷ 0x6C ∷ 0x0A ∷ []
