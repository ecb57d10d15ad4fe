pub mod Unwatched
