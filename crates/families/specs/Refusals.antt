-- What a refusal tells in words.
use Rattle.std.specs.Prelude.{ℕ, List, ◌++◌, codes}
use Rattle.std.specs.Fmt.{decimal}
use Rattle.families.specs.declared.questions.Refusal.{Refusal}
use Rattle.families.specs.Drafts.{number_of}

-- The number of the question that is answered no, and the head that it blames.
abbrev pub refusal_text : Refusal → List ℕ
refusal_text refusal = codes "question " ++ decimal (number_of refusal.question) ++ codes " at head " ++ decimal refusal.head
