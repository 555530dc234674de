-- Lists of words: a part of one, and a part of one zero.
use Rattle.std.specs.Prelude.{List, ◌++◌, ℕ, ◌-◌, length, take, drop, replicate}

-- Words a up to b zero.
unfoldable pub zeros : ℕ → ℕ → List ℕ → List ℕ
zeros a b ws = take a ws ++ (replicate (b - a) 0 ++ drop b ws)

-- n words from a on
abbrev pub part : ℕ → ℕ → List ℕ → List ℕ
part a n xs = take n (drop a xs)

-- as many words, all zero
abbrev pub cleared : List ℕ → List ℕ
cleared ws = replicate (length ws) 0
