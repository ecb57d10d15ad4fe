-- What several calls wrote.
mod Growing
