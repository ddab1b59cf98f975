-- The declared types that the definitions speak of, under one roof.
pub use Rattle.types.specs.declared.WindowNumber.{WindowNumber}
pub use Rattle.types.specs.declared.DocumentNumber.{DocumentNumber}
pub use Rattle.types.specs.declared.KeyNumber.{KeyNumber}
pub use Rattle.types.specs.declared.Host.{Host}
pub use Rattle.types.specs.declared.Protocol.{Protocol}
pub use Rattle.types.specs.declared.Protocol.TheVariants.{Plain, Secure}
pub use Rattle.types.specs.Perhaps.{Fragment}
pub use Rattle.std.specs.Prelude.{None as Absent, Some as Named}
pub use Rattle.types.specs.declared.Url.{Url}
pub use Rattle.types.specs.declared.Origin.{Origin}
pub use Rattle.types.specs.declared.cookies.CookieName.{CookieName}
pub use Rattle.types.specs.declared.cookies.Cookie.{Cookie}
pub use Rattle.types.specs.declared.cookies.Pair.{Pair}
pub use Rattle.types.specs.declared.cookies.Jar.{Jar}
pub use Rattle.types.specs.declared.Method.{Method}
pub use Rattle.types.specs.declared.Method.TheVariants.{Get, Head, Post, Put, Delete, Connect, Options, Trace}
pub use Rattle.types.specs.declared.OriginHeader.{OriginHeader}
pub use Rattle.types.specs.declared.OriginHeader.TheVariants.{Unsent, Null, From}
pub use Rattle.types.specs.Perhaps.{Referrer}
pub use Rattle.std.specs.Prelude.{None as Unknown, Some as Known}
pub use Rattle.types.specs.declared.Policy.{Policy}
pub use Rattle.types.specs.declared.Policy.TheVariants.{Unset, NoReferrer, OriginOnly}
pub use Rattle.types.specs.Perhaps.{Matching}
pub use Rattle.std.specs.Prelude.{None as Unmatched, Some as By}
pub use Rattle.types.specs.declared.Reference.{Reference}
pub use Rattle.types.specs.declared.Reference.TheVariants.{Req, Xhr}
pub use Rattle.types.specs.declared.Request.{Request}
pub use Rattle.types.specs.Perhaps.{Seal}
pub use Rattle.std.specs.Prelude.{None as Keyless, Some as Keyed}
pub use Rattle.types.specs.declared.commands.Script.{Script}
pub use Rattle.types.specs.declared.commands.ScriptState.{ScriptState}
pub use Rattle.types.specs.declared.answers.Body.{Body}
pub use Rattle.types.specs.declared.answers.Body.TheVariants.{Number, Page}
pub use Rattle.types.specs.Perhaps.{Parent}
pub use Rattle.std.specs.Prelude.{None as Top, Some as Under}
pub use Rattle.types.specs.Perhaps.{Opener}
pub use Rattle.std.specs.Prelude.{None as Nobody, Some as OpenedBy}
pub use Rattle.types.specs.declared.rows.Window.{Window}
pub use Rattle.types.specs.declared.rows.Document.{Document}
pub use Rattle.types.specs.declared.rows.HostCookie.{HostCookie}
pub use Rattle.types.specs.declared.rows.LocalValue.{LocalValue}
pub use Rattle.types.specs.declared.rows.SessionValue.{SessionValue}
pub use Rattle.types.specs.declared.rows.News.{News}
pub use Rattle.types.specs.declared.rows.News.TheVariants.{Answered, Posted}
pub use Rattle.types.specs.declared.rows.Input.{Input}
pub use Rattle.types.specs.declared.rows.Question.{Question}
pub use Rattle.types.specs.declared.rows.Waiting.{Waiting}
pub use Rattle.types.specs.declared.rows.StrictHost.{StrictHost}
