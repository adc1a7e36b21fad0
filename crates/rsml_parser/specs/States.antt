-- Reading states and specifications.
use Rattle.std.specs.Prelude.{ℕ, zero, suc, Bool, ◌||◌, not, List, [], Option, Some, None}
use Rattle.rsml_syntax.specs.grammar.Layout.{is_the_word}
use Rattle.rsml_syntax.specs.text.Names.{Name}
use Rattle.rsml_syntax.specs.declared.token.Mark.TheVariants as marks
use Rattle.rsml_syntax.specs.declared.token.Token.{Token}
use Rattle.rsml_syntax.specs.declared.token.Word.TheVariants as words
use Rattle.rsml_syntax.specs.declared.syntax.Body.{Body, Basic, One, All}
use Rattle.rsml_syntax.specs.declared.syntax.Bus.{Bus}
use Rattle.rsml_syntax.specs.declared.syntax.Mention.{Mention}
use Rattle.rsml_syntax.specs.declared.syntax.Spec.{Spec}
use Rattle.rsml_syntax.specs.declared.syntax.StateDecl.{StateDecl}
use Rattle.rsml_syntax.specs.declared.syntax.Transition.{Transition}
use Rattle.rsml_parser.specs.Declarations.{declaration}
use Rattle.rsml_parser.specs.Mentions.{bracketed_amount, mention}
use Rattle.rsml_parser.specs.Tables.{when_guard}
use Rattle.rsml_parser.specs.Parsers.{Parser, ◌>>=◌, ◌>>◌, pure, choose, first, sees_mark, sees_word, word, mark, name, end, too_deep, many, separated, until}

-- `bus`, its name, and its members in braces
abbrev pub bus : Parser Bus
bus = do
  word words.Bus
  n ← name
  mark marks.OpenBrace
  ms ← separated marks.Comma name
  mark marks.CloseBrace
  pure (record { name = n; members = ms })

-- a source and the target, if there is one
abbrev pub movement : Parser (Name × Option (List Name))
movement = choose (sees_word words.Move)
    (do
      word words.Move
      source ← name
      mark marks.Arrow
      target ← separated marks.Dot name
      pure (source, Some target))
    (word words.Stay >> name >>= (λ source. pure (source, None)))

-- `raise` and mentions, or nothing
abbrev pub raises : Parser (List Mention)
raises = choose (sees_word words.Raise) (word words.Raise >> separated marks.Comma mention) (pure [])

-- the movement, `on` and its trigger, its guard, what it raises, and `;`
abbrev pub transition : Parser Transition
transition = do
  way ← movement
  word words.On
  m ← mention
  g ← when_guard
  rs ← raises
  mark marks.Semicolon
  pure (record { source = way.0; target = way.1; trigger = m; guard = g; raises = rs })

-- a state is a child where its first token is one of these words
abbrev pub opens_state : Token → Bool
opens_state t = is_the_word words.State t || is_the_word words.Array t

-- `state`, its name, and its body
abbrev pub plain_state : Parser Body → Parser StateDecl
plain_state inner = do
  word words.State
  n ← name
  b ← inner
  pure (record { name = n; size = None; body = b })

-- `array`, its name, its size, and its body
abbrev pub array_of_states : Parser Body → Parser StateDecl
array_of_states inner = do
  word words.Array
  n ← name
  s ← bracketed_amount
  b ← inner
  pure (record { name = n; size = Some s; body = b })

-- a state or an array of states
abbrev pub child : Parser Body → Parser StateDecl
child inner = choose (sees_word words.Array) (array_of_states inner) (plain_state inner)

-- `one`, and in braces its default, its children, its buses and its transitions
abbrev pub one_of : Parser (List StateDecl) → Parser Body
one_of inner = do
  word words.One
  mark marks.OpenBrace
  word words.Default
  n ← name
  mark marks.Semicolon
  cs ← inner
  bs ← many (sees_word words.Bus) bus
  ts ← until marks.CloseBrace transition
  pure (One n cs bs ts)

-- `all`, and its children in braces
abbrev pub all_of : Parser (List StateDecl) → Parser Body
all_of inner = do
  word words.All
  mark marks.OpenBrace
  cs ← inner
  mark marks.CloseBrace
  pure (All cs)

-- a body, by its first token
abbrev pub body_of : Parser (List StateDecl) → Parser Body
body_of inner = choose (sees_mark marks.Semicolon) (mark marks.Semicolon >> pure Basic) (choose (sees_word words.One) (one_of inner) (all_of inner))

-- children, where no state may open
abbrev pub no_children : Parser (List StateDecl)
no_children = choose (first opens_state) too_deep (pure [])

-- children, in which at most so many states may be nested
unfoldable pub children : ℕ → Parser (List StateDecl)
children zero = no_children
children (suc room) = many (first opens_state) (child (body_of (children room)))

-- a body, in which at most so many states may be nested
abbrev pub body : ℕ → Parser Body
body room = body_of (children room)

-- a declaration begins with this token, since it is not the word `state`
abbrev pub opens_declaration : Token → Bool
opens_declaration t = not (is_the_word words.State t)

-- in the top state at most so many states may be nested
abbrev pub specification : ℕ → Parser Spec
specification room = do
  word words.Specification
  n ← name
  mark marks.Semicolon
  ds ← many (first opens_declaration) declaration
  word words.State
  top ← name
  b ← body room
  pure (record { name = n; decls = ds; top = top; body = b })

-- a specification is all of the tokens
unfoldable pub whole : ℕ → Parser Spec
whole room = do
  s ← specification room
  end
  pure s
