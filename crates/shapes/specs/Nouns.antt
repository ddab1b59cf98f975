-- The declared types that the definitions speak of, under one roof.
pub use Rattle.types.specs.declared.WindowNumber.{WindowNumber}
pub use Rattle.types.specs.declared.DocumentNumber.{DocumentNumber}
pub use Rattle.types.specs.declared.RequestNumber.{RequestNumber}
pub use Rattle.types.specs.declared.DnsNumber.{DnsNumber}
pub use Rattle.types.specs.declared.KeyNumber.{KeyNumber}
pub use Rattle.types.specs.declared.Label.{Label as Mark}
pub use Rattle.types.specs.declared.Label.TheVariants.{OfWindow, OfRequest, OfDns, OfKey, OfDocument}
pub use Rattle.types.specs.declared.Fresh.{Fresh}
pub use Rattle.types.specs.declared.Host.{Host}
pub use Rattle.types.specs.declared.Address.{Address}
pub use Rattle.types.specs.declared.Path.{Path}
pub use Rattle.types.specs.declared.Parameters.{Parameters}
pub use Rattle.types.specs.declared.Protocol.{Protocol}
pub use Rattle.types.specs.declared.Protocol.TheVariants.{Plain, Secure}
pub use Rattle.types.specs.Perhaps.{Fragment}
pub use Rattle.std.specs.Prelude.{None as Absent, Some as Named}
pub use Rattle.types.specs.declared.Url.{Url}
pub use Rattle.types.specs.declared.Origin.{Origin}
pub use Rattle.types.specs.declared.cookies.CookieName.{CookieName}
pub use Rattle.types.specs.declared.cookies.CookieValue.{CookieValue}
pub use Rattle.types.specs.declared.cookies.Cookie.{Cookie}
pub use Rattle.types.specs.declared.cookies.Pair.{Pair}
pub use Rattle.types.specs.declared.cookies.SetCookies.{SetCookies}
pub use Rattle.types.specs.declared.cookies.Jar.{Jar}
pub use Rattle.types.specs.declared.Method.{Method}
pub use Rattle.types.specs.declared.Method.TheVariants.{Get, Head, Post, Put, Delete, Connect, Options, Trace}
pub use Rattle.types.specs.declared.Data.{Data}
pub use Rattle.types.specs.declared.OriginHeader.{OriginHeader}
pub use Rattle.types.specs.declared.OriginHeader.TheVariants.{Unsent, Null, From}
pub use Rattle.types.specs.Perhaps.{Referrer}
pub use Rattle.std.specs.Prelude.{None as Unknown, Some as Known}
pub use Rattle.types.specs.declared.Policy.{Policy}
pub use Rattle.types.specs.declared.Policy.TheVariants.{Unset, NoReferrer, OriginOnly}
pub use Rattle.types.specs.Perhaps.{Matching}
pub use Rattle.std.specs.Prelude.{None as Unmatched, Some as By}
pub use Rattle.types.specs.declared.Reference.{Reference}
pub use Rattle.types.specs.declared.Reference.TheVariants.{Req, Xhr}
pub use Rattle.types.specs.declared.Cancelled.{Cancelled}
pub use Rattle.types.specs.declared.Cancelled.TheVariants.{Bare, Labelled}
pub use Rattle.types.specs.declared.Request.{Request}
pub use Rattle.types.specs.declared.Sending.{Sending}
pub use Rattle.types.specs.Perhaps.{Seal}
pub use Rattle.std.specs.Prelude.{None as Keyless, Some as Keyed}
pub use Rattle.types.specs.declared.Message.{Message}
pub use Rattle.types.specs.declared.Message.TheVariants.{Resolve as resolve, Open as unsealed, Sealed as sealed}
pub use Rattle.types.specs.declared.commands.Script.{Script}
pub use Rattle.types.specs.declared.commands.ScriptState.{ScriptState}
pub use Rattle.types.specs.declared.commands.Target.{Target}
pub use Rattle.types.specs.declared.commands.Target.TheVariants.{NewWindow, Existing}
pub use Rattle.types.specs.declared.commands.Holder.{Holder}
pub use Rattle.types.specs.declared.commands.Holder.TheVariants.{Itself, Within}
pub use Rattle.types.specs.Perhaps.{Addressee}
pub use Rattle.std.specs.Prelude.{None as Anyone, Some as Only}
pub use Rattle.types.specs.declared.commands.Command.{Command}
pub use Rattle.types.specs.declared.commands.Command.TheVariants.{Nothing, Href, Iframe, Form, SetScript, SetScriptState, XmlHttpRequest, Back, Forward, Close, PostMessage}
pub use Rattle.types.specs.declared.answers.Status.{Status}
pub use Rattle.types.specs.Perhaps.{Location}
pub use Rattle.std.specs.Prelude.{None as Nowhere, Some as To}
pub use Rattle.types.specs.declared.answers.Body.{Body}
pub use Rattle.types.specs.declared.answers.Body.TheVariants.{Number, Page}
pub use Rattle.types.specs.declared.answers.Headers.{Headers}
pub use Rattle.types.specs.declared.answers.Answer.{Answer}
pub use Rattle.types.specs.declared.answers.Reply.{Reply}
pub use Rattle.types.specs.declared.answers.DnsAnswer.{DnsAnswer}
pub use Rattle.types.specs.declared.items.Stored.{Stored}
pub use Rattle.types.specs.declared.items.Output.{Output}
pub use Rattle.types.specs.declared.items.Event.{Event}
pub use Rattle.types.specs.declared.items.Event.TheVariants.{RunScript, Urlbar, Reload, GoForward, GoBack, CloseCorrupt, EncryptedAnswer, PlainAnswer, DnsResolved}
pub use Rattle.types.specs.declared.items.Happening.{Happening}
pub use Rattle.types.specs.declared.items.Item.{Item}
pub use Rattle.types.specs.Perhaps.{Parent}
pub use Rattle.std.specs.Prelude.{None as Top, Some as Under}
pub use Rattle.types.specs.Perhaps.{Opener}
pub use Rattle.std.specs.Prelude.{None as Nobody, Some as OpenedBy}
pub use Rattle.types.specs.declared.rows.Window.{Window}
pub use Rattle.types.specs.declared.rows.Document.{Document}
pub use Rattle.types.specs.declared.rows.HostCookie.{HostCookie}
pub use Rattle.types.specs.declared.rows.LocalValue.{LocalValue}
pub use Rattle.types.specs.declared.rows.SessionValue.{SessionValue}
pub use Rattle.types.specs.declared.rows.News.{News}
pub use Rattle.types.specs.declared.rows.News.TheVariants.{Answered, Posted}
pub use Rattle.types.specs.declared.rows.Input.{Input}
pub use Rattle.types.specs.declared.rows.Question.{Question}
pub use Rattle.types.specs.declared.rows.Waiting.{Waiting}
pub use Rattle.types.specs.declared.rows.StrictHost.{StrictHost}
pub use Rattle.types.specs.declared.refusals.Missing.{Missing}
pub use Rattle.types.specs.declared.refusals.Missing.TheVariants.{NoWindow, NoDocument, NoQuestion, NoRequest, Mismatch}
pub use Rattle.types.specs.declared.refusals.Refusal.{Refusal}
pub use Rattle.types.specs.declared.refusals.Refusal.TheVariants.{BadText, BadShape, Lacking, Stopped, NotFresh, Full, NoRoom, Closed}
