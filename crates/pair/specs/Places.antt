-- Two rows side by side keep the laws, if each does.
use Rattle.std.specs.Prelude.{List, [], ◌∷◌, ◌++◌}
use Rattle.row.specs.Cores.{CoreMeaning, AllLawful}

pub lawful_both : (xs ys : List CoreMeaning) → AllLawful xs → AllLawful ys → AllLawful (xs ++ ys)
lawful_both [] ys h k = k
lawful_both (x ∷ xs) ys h k = (h.0, lawful_both xs ys h.1 k)
