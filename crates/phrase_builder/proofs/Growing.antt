-- Phrases that are added.
use Rattle.std.proofs.Common.{◌≡◌, ℕ, ◌<◌, ◌≤◌, List, [], ◌∷◌, ◌++◌, length, inl, inr, sym, subst, arith, length-append}
use Rattle.std.proofs.lemmas.List.Elements.{All-weaker}
use Rattle.and_or_tables.specs.declared.ground.GroundTable.{GroundTable}
use Rattle.rsml_ground.specs.declared.definitions.GroundGuard.{GroundGuard}
use Rattle.rsml_ground.specs.declared.definitions.GroundGuard.TheVariants as guards
use Rattle.rsml_ground.specs.declared.definitions.Definition.{Definition}
use Rattle.rsml_ground.specs.declared.definitions.Definition.TheVariants as definition
use Rattle.rsml_ground.specs.declared.phrases.GroundPhrase.{GroundPhrase}
use Rattle.rsml_ground.specs.declared.phrases.GroundPhrase.TheVariants as phrases
use Rattle.rsml_ground.specs.Numbers.{IsWith}
use Rattle.rsml_ground.specs.Rests.{TableFits, GuardFits, CaseFits, DefinitionFits, IsDefined, RestsOn, Rest}
use Rattle.phrase_builder.specs.Grown.{Grew, SimpleFits}
use Rattle.phrase_builder.proofs.Lists.{front, either, there_is, each_to}

table_more : (n m : ℕ) → n ≤ m → (table : GroundTable) → TableFits n table → TableFits m table
table_more n m l table h = record { shape = h.shape; below = All-weaker (λ row. row.phrase < n) (λ row. row.phrase < m) (λ row b. omega (arith, l, b)) table.rows h.below }

pub guard_more : (n m : ℕ) → n ≤ m → (x : GroundGuard) → GuardFits n x → GuardFits m x
guard_more n m l guards.Always h = tt
guard_more n m l (guards.Table table) h = table_more n m l table h

pub definition_more : (c n m : ℕ) → n ≤ m → (d : Definition) → DefinitionFits c n d → DefinitionFits c m d
definition_more c n m l (definition.Macro table) h = table_more n m l table h
definition_more c n m l (definition.Function cases) h = each_to (CaseFits c n) (CaseFits c m) (λ x a. record { value = a.value; guard = guard_more n m l x.guard a.guard }) cases h

-- No more phrases, and one more.

pub same_grew : (c : ℕ) (ds : List Definition) (ps qs : List GroundPhrase) → qs ≡ ps → Rest c ds ps → Grew c ds ps qs
same_grew c ds ps qs e h = subst (Grew c ds ps) (sym e) (record { keeps = λ k p a. a; longer = omega arith; rest = h })

pub grew_both : (c : ℕ) (ds : List Definition) (ps qs rs : List GroundPhrase) → Grew c ds ps qs → Grew c ds qs rs → Grew c ds ps rs
grew_both c ds ps qs rs a b = record { keeps = λ k p h. b.keeps k p (a.keeps k p h); longer = omega (arith, a.longer, b.longer); rest = b.rest }

behind : (c : ℕ) (ds : List Definition) (ps : List GroundPhrase) (p : GroundPhrase) → Rest c ds ps → RestsOn ds c (length ps) p → Grew c ds ps (ps ++ (p ∷ []))
behind c ds ps p h r = record {
  keeps = front ps (p ∷ []);
  longer = omega (arith, length-append ps (p ∷ []));
  rest = record {
    phrase = λ k q a. elim (either ps p k q a) [ inl b ↦ h.phrase k q b | inr b ↦ subst (λ z. RestsOn ds c z q) (sym b.0) (subst (λ z. RestsOn ds c (length ps) z) b.1 r) ];
    definition = λ k d a. definition_more c (length ps) (length (ps ++ (p ∷ []))) (omega (arith, length-append ps (p ∷ []))) d (h.definition k d a);
  };
}

pub added : (c : ℕ) (ds : List Definition) (ps qs : List GroundPhrase) (p : GroundPhrase) → IsWith ps p qs → Rest c ds ps → RestsOn ds c (length ps) p → Grew c ds ps qs
added c ds ps qs p w h r = elim w [ inl a ↦ same_grew c ds ps qs a.1 h | inr e ↦ subst (Grew c ds ps) (sym e) (behind c ds ps p h r) ]

-- On what a phrase rests.

defined : (c : ℕ) (ds : List Definition) (ps : List GroundPhrase) (d : ℕ) → Rest c ds ps → d < length ds → IsDefined ds c (length ps) d
defined c ds ps d h l = let x = there_is ds d l in (x.0, x.1, h.definition d x.0 x.1)

pub simple_rests : (c : ℕ) (ds : List Definition) (ps : List GroundPhrase) (p : GroundPhrase) → Rest c ds ps → SimpleFits c (length ds) p → RestsOn ds c (length ps) p
simple_rests c ds ps (phrases.In node) h f = tt
simple_rests c ds ps (phrases.Macro k) h f = defined c ds ps k h f
simple_rests c ds ps (phrases.Any ks) h f = elim f [ ]
simple_rests c ds ps (phrases.Every ks) h f = elim f [ ]
simple_rests c ds ps (phrases.Compare x q y) h f = f
simple_rests c ds ps (phrases.Function k q n) h f = defined c ds ps k h f

-- One more definition.

rests_more : (c : ℕ) (ds : List Definition) (x : Definition) (n : ℕ) (p : GroundPhrase) → RestsOn ds c n p → RestsOn (ds ++ (x ∷ [])) c n p
rests_more c ds x n (phrases.In k) r = tt
rests_more c ds x n (phrases.Macro d) r = (r.0, front ds (x ∷ []) d r.0 r.1, r.2)
rests_more c ds x n (phrases.Any ks) r = r
rests_more c ds x n (phrases.Every ks) r = r
rests_more c ds x n (phrases.Compare a q b) r = r
rests_more c ds x n (phrases.Function d q a) r = (r.0, front ds (x ∷ []) d r.0 r.1, r.2)

pub rest_more : (c : ℕ) (ds es : List Definition) (x : Definition) (ps : List GroundPhrase) → es ≡ ds ++ (x ∷ []) → Rest c ds ps → DefinitionFits c (length ps) x → Rest c es ps
rest_more c ds es x ps e h f = subst (λ z. Rest c z ps) (sym e) (record {
  phrase = λ k p a. rests_more c ds x k p (h.phrase k p a);
  definition = λ k d a. elim (either ds x k d a) [ inl b ↦ h.definition k d b | inr b ↦ subst (DefinitionFits c (length ps)) b.1 f ];
})
