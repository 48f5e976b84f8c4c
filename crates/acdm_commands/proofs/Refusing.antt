-- What comes of a file that tables are read of.
use Rattle.std.proofs.Common.{◌≡◌, ◌⊎◌, ◌↔◌, ℕ, Bool, false, IsTrue, List, [], Option, Some, None, Err, IfSome, IfNone, inl, inr, sym, subst}
use Rattle.acdm_failures.specs.Failures.{Complains, failure_text}
use Rattle.acdm_failures.specs.declared.failure.Failure.TheVariants.{Memory}
use Rattle.acdm_judging.specs.Gave.{GaveBytes}
use Rattle.acdm_lines.specs.Counted.{SinkView, SourceView}
use Rattle.acdm_tables.specs.Helpers.{TablesView}
use Rattle.acdm_tables.specs.Reading.{Reads, most_text}
use Rattle.acdm_tables.specs.declared.fault.TablesError.{TablesError}
use Rattle.acdm_commands.proofs.Files.{gave_any}
use Rattle.acdm_commands.specs.ByTables.{AreTables, GivesNone, GivesOther, ReadsTables, RefusesJournal, RefusesTables, beside, other_text, refusal_text}
use Rattle.acdm_commands.specs.Completed.{IsUnread, read_from}

-- what a reader gave means none, which was told, or there was no memory to say so
pub gave_none : {R E : Type 0} (path text : List ℕ) (error : TablesError) (read later : SourceView R)
    (errors last : SinkView E) → GaveBytes most_text read later text
    → Reads {X = TablesView} (λ t. t) text (Err error)
    → Complains errors last (refusal_text path error) ⊎ Complains errors last (failure_text Memory)
    → GivesNone path read later errors last
gave_none path text error read later errors last gave reads (inl told) =
    inl (record { text = text; gave = gave; error = error; reads = reads; told = told })
gave_none path text error read later errors last gave reads (inr told) = inr (inr told)

-- ---- whatever the file is

module _ {F : Type 0} (path : List ℕ) (file later : SourceView F) where
  pub some_at : (tables : Option TablesView) → IsUnread file → IfSome tables (ReadsTables file later)
      → IfSome tables (AreTables (Some path))
  some_at (Some tables) unread p = (
    read_from file,
    read_from later,
    unread,
    record { text = p.text; gave = gave_any [] file later most_text p.text p.gave; reads = p.reads },
  )
  some_at None unread p = p

  none_any : {E : Type 0} (errors last : SinkView E) → GivesNone path file later errors last
      → GivesNone path (read_from file) (read_from later) errors last
  none_any errors last (inl p) = inl (record {
    text = p.text;
    gave = gave_any [] file later most_text p.text p.gave;
    error = p.error;
    reads = p.reads;
    told = p.told;
  })
  none_any errors last (inr p) = inr p

  pub none_at : {E : Type 0} (tables : Option TablesView) (errors last : SinkView E) → IsUnread file
      → IfNone tables (GivesNone path file later errors last)
      → IfNone tables (RefusesTables (Some path) errors last)
  none_at (Some tables) errors last unread p = p
  none_at None errors last unread p =
      inl (read_from file, read_from later, unread, none_any errors last p)

-- ---- the file beside a journal

pub not_same : {A : Type 0} (same : Bool) → same ≡ false → IsTrue same ↔ A → A → ⊥
not_same same off both a = absurd (cc (off, both.1 a))

-- it has others, which was told, or there was no memory to say so
pub told_other : {R E : Type 0} (path : List ℕ) (tables others : TablesView) (read later : SourceView R)
    (errors mid last : SinkView E) → (others ≡ tables → ⊥) → ReadsTables read later others → mid ≡ errors
    → Complains mid last (other_text path) ⊎ Complains mid last (failure_text Memory)
    → GivesOther path tables read later errors last ⊎ Complains errors last (failure_text Memory)
told_other path tables others read later errors mid last differs reads quiet (inl told) =
    inl (inl (record {
      others = others;
      reads = reads;
      differs = differs;
      told = subst (λ e. Complains e last (other_text path)) quiet told;
    }))
told_other path tables others read later errors mid last differs reads quiet (inr told) =
    inr (subst (λ e. Complains e last (failure_text Memory)) quiet told)

module _ {F E : Type 0} (path : List ℕ) (tables : TablesView) (file later : SourceView F) (errors last : SinkView E) where
  other_any : GivesOther path tables file later errors last
      → GivesOther path tables (read_from file) (read_from later) errors last
  other_any (inl p) = inl (record {
    others = p.others;
    reads = record {
      text = p.reads.text;
      gave = gave_any [] file later most_text p.reads.text p.reads.gave;
      reads = p.reads.reads;
    };
    differs = p.differs;
    told = p.told;
  })
  other_any (inr p) = inr (none_any (beside path) file later errors last p)

  refused : IsUnread file → GivesOther path tables file later errors last ⊎ Complains errors last (failure_text Memory)
      → RefusesJournal (Some path) tables errors last
  refused unread (inl p) = inl (read_from file, read_from later, unread, other_any p)
  refused unread (inr p) = inr (inr p)

  pub refused_at : (given : Option (List ℕ)) → given ≡ Some path → IsUnread file
      → GivesOther path tables file later errors last ⊎ Complains errors last (failure_text Memory)
      → RefusesJournal given tables errors last
  refused_at given is unread p = subst (λ o. RefusesJournal o tables errors last) (sym is) (refused unread p)
