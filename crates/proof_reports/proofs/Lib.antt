mod Places
mod Joined
mod Others
mod Strays
mod Room
mod Answers
mod DueRows
