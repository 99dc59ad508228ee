-- Names of files.
use Rattle.std.specs.Prelude.{ℕ, ◌==◌, if◌then◌else◌, List, [], ◌∷◌}

-- what stands behind the last slash, or this where there is none
abbrev pub behind_slash : List ℕ → List ℕ → List ℕ
behind_slash base [] = base
behind_slash base (c ∷ cs) = if c == 47 then behind_slash cs cs else behind_slash base cs

-- the name of a file without its folders
abbrev pub base_of : List ℕ → List ℕ
base_of name = behind_slash name name
