-- The arguments that are no file, and the name of a file beside another.
-- Assumes nothing.
use Rattle.std.specs.Prelude.{Bool, cond, ◌||◌, [], ◌∷◌, ◌++◌, ℕ, ◌+◌, eqb, take}
use Rattle.octets.specs.Same.{same_bytes}
use Rattle.program_text.specs.Lines.{Bytes}

-- `--help` or `-h`
abbrev pub asks_help : Bytes → Bool
asks_help a = same_bytes a (45 ∷ 45 ∷ 104 ∷ 101 ∷ 108 ∷ 112 ∷ []) || same_bytes a (45 ∷ 104 ∷ [])

-- `--version`
abbrev pub asks_version : Bytes → Bool
asks_version a = same_bytes a (45 ∷ 45 ∷ 118 ∷ 101 ∷ 114 ∷ 115 ∷ 105 ∷ 111 ∷ 110 ∷ [])

-- the place behind the last slash from place i on, or what was found before
unfoldable pub last_slash : ℕ → ℕ → Bytes → ℕ
last_slash found i [] = found
last_slash found i (x ∷ xs) = last_slash (cond (eqb x 47) (i + 1) found) (i + 1) xs

-- how many bytes of a path name its folder
abbrev pub folder_in : Bytes → ℕ
folder_in path = last_slash 0 0 path

-- `smb3seal-XXXXXX`, in which the program replaces the last six
abbrev pub template : Bytes
template = 115 ∷ 109 ∷ 98 ∷ 51 ∷ 115 ∷ 101 ∷ 97 ∷ 108 ∷ 45 ∷ 88 ∷ 88 ∷ 88 ∷ 88 ∷ 88 ∷ 88 ∷ []

-- a name in the same folder
unfoldable pub beside : Bytes → Bytes
beside path = take (folder_in path) path ++ template
