-- The reserved words: how they are written, and which names they are. The constant WORDS holds each word once.
use Rattle.std.specs.Prelude.{ℕ, Bool, List, Option, codes, find}
use Rattle.std.specs.Str.{bytes_eq}
use denote.Enum.Bare.{sameb}
use Rattle.rsml_syntax.specs.contracts.token.Word as words
use Rattle.rsml_syntax.specs.declared.token.Word.{Word}
use Rattle.rsml_syntax.specs.declared.token.Word.TheVariants as word
use Rattle.rsml_syntax.specs.declared.token.TheConstants.{WORDS}

-- how a word is written
unfoldable pub spelling : Word → List ℕ
spelling word.All = codes "all"
spelling word.Always = codes "always"
spelling word.Array = codes "array"
spelling word.Bus = codes "bus"
spelling word.Constant = codes "constant"
spelling word.Default = codes "default"
spelling word.Enumeration = codes "enumeration"
spelling word.Event = codes "event"
spelling word.Every = codes "every"
spelling word.Function = codes "function"
spelling word.In = codes "in"
spelling word.Input = codes "input"
spelling word.Macro = codes "macro"
spelling word.Move = codes "move"
spelling word.Of = codes "of"
spelling word.On = codes "on"
spelling word.One = codes "one"
spelling word.Previous = codes "previous"
spelling word.Quiet = codes "quiet"
spelling word.Raise = codes "raise"
spelling word.Range = codes "range"
spelling word.Receive = codes "receive"
spelling word.Send = codes "send"
spelling word.Any = codes "some"
spelling word.Specification = codes "specification"
spelling word.State = codes "state"
spelling word.Stay = codes "stay"
spelling word.This = codes "this"
spelling word.When = codes "when"
spelling word.T = codes "T"
spelling word.F = codes "F"

-- the word that a name is, if any
unfoldable pub word_of : List ℕ → Option Word
word_of name = find (λ w. bytes_eq name (spelling w)) WORDS

-- whether two words are one
abbrev pub same_word : Word → Word → Bool
same_word = sameb words.the_type
